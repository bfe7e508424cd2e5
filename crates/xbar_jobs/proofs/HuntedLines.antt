-- a number's lines are hunted one after another
use Rattle.std.proofs.Common.{◌≡◌, ℕ, ◌+◌, ◌<◌, ◌≤◌, Bool, true, false, List, length, drop, slice_index_or, refl, sym, ◌∙◌, ap, Option, Some, None, Ok, Err}
use Rattle.std.proofs.Common.{is_some}
use Rattle.{std.proofs.lemmas.List.{at_drop_all, at_drop_more}, turns.specs.Script.◌>>=◌, attempts.proofs.WalksOnWords.live_end}
use Rattle.xbar_equip.specs.{Conn.conn_eq, Len.{Line, line_eq}}
use Rattle.xbar_jobs.specs.{Closing.value_after, Completing.{hunt, unless_busy, unless_calling}, Script.{WalkState, Script, Wanted, conn_word, walk_on_words}}
use Rattle.xbar_jobs.{specs.{Tracing.{approach, channel_of}, declared.{effect.Effect.Effect, party.Party.Party}}, proofs.WalksOnWords.{comes, goes_on, stops}}

module _ (made : List Effect) (calling : Line) (lines : List Line) (at : ℕ) (line : Line) (is : line ≡ slice_index_or lines at line) (below : at < length lines)
    (state : WalkState) (words : List ℕ) where
  abbrev rest : Script (Option Party)
  rest = hunt calling (drop (at + 1) lines)

  turn : walk_on_words made (hunt calling (drop at lines)) state words ≡ walk_on_words made (unless_calling line rest (line_eq line calling)) state words
  unfolding hunt
  turn =
      at_drop_more (λ (left : List Line). walk_on_words made (hunt calling left) state words) lines at line below
      ∙ ap (λ (l : Line). walk_on_words made (unless_calling l rest (line_eq l calling)) state words) (sym is)

  module _ (other : line_eq line calling ≡ false) where
    approached : walk_on_words made (hunt calling (drop at lines)) state words
        ≡ walk_on_words made (approach line >>= λ party. unless_busy party rest (channel_of party)) state words
    unfolding unless_calling
    approached = turn ∙ ap (λ (b : Bool). walk_on_words made (unless_calling line rest b) state words) other

    -- a line that isn't the calling one is approached
    pub hunt_stops : (wanted : Wanted) (more : WalkState) (after : List ℕ) → walk_on_words made (approach line) state words ≡ comes (Err wanted) more after
        → walk_on_words made (hunt calling (drop at lines)) state words ≡ comes (Err wanted) more after
    hunt_stops wanted more after is = approached ∙ stops made (approach line) _ state more words after wanted is

    module _ (party : Party) (more : WalkState) (after : List ℕ) (come : walk_on_words made (approach line) state words ≡ comes (Ok party) more after) where
      came : walk_on_words made (hunt calling (drop at lines)) state words ≡ walk_on_words made (unless_busy party rest (channel_of party)) more after
      came = approached ∙ goes_on made (approach line) _ state more words after party come

      -- the line is the called one if it has no path
      pub idle_found : is_some (channel_of party) ≡ false → walk_on_words made (hunt calling (drop at lines)) state words ≡ comes (Ok (Some party)) more after
      unfolding unless_busy
      idle_found none = came ∙ found (channel_of party) none where
        found : (o : Option ℕ) → is_some o ≡ false → walk_on_words made (unless_busy party rest o) more after ≡ comes (Ok (Some party)) more after
        found None e = live_end conn_eq conn_word 42 19 (value_after made) (Some party) more after
        found (Some channel) e = absurd cc

      -- and is passed over if it has one
      pub busy_passed : is_some (channel_of party) ≡ true → walk_on_words made (hunt calling (drop at lines)) state words ≡ walk_on_words made rest more after
      unfolding unless_busy
      busy_passed has = came ∙ passed (channel_of party) has where
        passed : (o : Option ℕ) → is_some o ≡ true → walk_on_words made (unless_busy party rest o) more after ≡ walk_on_words made rest more after
        passed None e = absurd cc
        passed (Some channel) e = refl

-- after the last line there is none
pub none_hunted : (made : List Effect) (calling : Line) (lines : List Line) (at : ℕ) (state : WalkState) (words : List ℕ) → length lines ≤ at
    → walk_on_words made (hunt calling (drop at lines)) state words ≡ comes (Ok None) state words
unfolding hunt
none_hunted made calling lines at state words past =
    at_drop_all (λ (left : List Line). walk_on_words made (hunt calling left) state words) lines at past
    ∙ live_end conn_eq conn_word 42 19 (value_after made) None state words
