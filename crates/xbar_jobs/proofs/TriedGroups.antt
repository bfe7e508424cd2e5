-- groups are tried one after another for an idle member
use Rattle.std.proofs.Common.{◌≡◌, ℕ, ◌+◌, ◌<◌, ◌≤◌, List, length, drop, slice_index, sym, ◌∙◌, ap, Option, Some, None, Ok, Err}
use Rattle.{std.{specs.Prelude.⊤, proofs.lemmas.List.{at_drop_all, at_drop_more}}, turns.specs.Script.{◌>>=◌, seize}, attempts.proofs.WalksOnWords.live_end}
use Rattle.{xbar_equip.specs.{Conn.conn_eq, Word.GroupWord, declared.conn.Conn.TheVariants.Group}, xbar_plan.specs.Tables.Tables}
use Rattle.xbar_jobs.specs.{Closing.value_after, Script.{WalkState, Script, Wanted, conn_word, walk_on_words, test}, Trunks.{find_trunk, first_clear, idle_or}}
use Rattle.xbar_jobs.{specs.{Trunks.trunks_of, declared.{effect.Effect.Effect, trunks.IdleGroup.IdleGroup}}, proofs.WalksOnWords.{comes, goes_on, stops}}

module _ (plan : Tables) (made : List Effect) (groups : List ℕ) (at : ℕ) (below : at < length groups) (state : WalkState) (words : List ℕ) where
  abbrev group : ℕ
  group = slice_index groups at

  abbrev rest : Script (Option IdleGroup)
  rest = find_trunk plan (drop (at + 1) groups)

  abbrev with_word : ℕ → Script (Option IdleGroup)
  with_word word = idle_or group word rest (first_clear (trunks_of plan group word))

  turn : walk_on_words made (find_trunk plan (drop at groups)) state words
      ≡ walk_on_words made (seize (Group group) >>= λ _. test (GroupWord group) >>= with_word) state words
  unfolding find_trunk
  turn = at_drop_more (λ (left : List ℕ). walk_on_words made (find_trunk plan left) state words) groups at 0 below

  -- a group is seized first
  pub seizing_stops : (wanted : Wanted) (more : WalkState) (after : List ℕ)
      → walk_on_words made (seize (Group group)) state words ≡ comes (Err wanted) more after
      → walk_on_words made (find_trunk plan (drop at groups)) state words ≡ comes (Err wanted) more after
  seizing_stops wanted more after is = turn ∙ stops made (seize (Group group)) _ state more words after wanted is

  module _ (held : ⊤) (more : WalkState) (after : List ℕ) (own : walk_on_words made (seize (Group group)) state words ≡ comes (Ok held) more after) where
    seized : walk_on_words made (find_trunk plan (drop at groups)) state words ≡ walk_on_words made (test (GroupWord group) >>= with_word) more after
    seized = turn ∙ goes_on made (seize (Group group)) _ state more words after held own

    -- then its word is tested
    pub testing_stops : (wanted : Wanted) (last : WalkState) (now : List ℕ)
        → walk_on_words made (test (GroupWord group)) more after ≡ comes (Err wanted) last now
        → walk_on_words made (find_trunk plan (drop at groups)) state words ≡ comes (Err wanted) last now
    testing_stops wanted last now is = seized ∙ stops made (test (GroupWord group)) with_word more last after now wanted is

    module _ (word : ℕ) (last : WalkState) (now : List ℕ) (read : walk_on_words made (test (GroupWord group)) more after ≡ comes (Ok word) last now)
        (found : Option ℕ) (is : found ≡ first_clear (trunks_of plan group word)) where
      tested : walk_on_words made (find_trunk plan (drop at groups)) state words ≡ walk_on_words made (idle_or group word rest found) last now
      tested =
          seized ∙ goes_on made (test (GroupWord group)) with_word more last after now word read
          ∙ ap (λ (o : Option ℕ). walk_on_words made (idle_or group word rest o) last now) (sym is)

      -- it is taken if it has an idle member
      pub idle_taken : (first : ℕ) → found ≡ Some first
          → walk_on_words made (find_trunk plan (drop at groups)) state words
          ≡ comes (Ok (Some (record { group = group; word = word; first = first }))) last now
      unfolding idle_or
      idle_taken first has =
          tested ∙ ap (λ (o : Option ℕ). walk_on_words made (idle_or group word rest o) last now) has
          ∙ live_end conn_eq conn_word 42 19 (value_after made) _ last now

      -- and passed over if it has none
      pub busy_passed : found ≡ None → walk_on_words made (find_trunk plan (drop at groups)) state words ≡ walk_on_words made rest last now
      unfolding idle_or
      busy_passed none = tested ∙ ap (λ (o : Option ℕ). walk_on_words made (idle_or group word rest o) last now) none

-- after the last group there is none
pub none_tried : (plan : Tables) (made : List Effect) (groups : List ℕ) (at : ℕ) (state : WalkState) (words : List ℕ) → length groups ≤ at
    → walk_on_words made (find_trunk plan (drop at groups)) state words ≡ comes (Ok None) state words
unfolding find_trunk
none_tried plan made groups at state words past =
    at_drop_all (λ (left : List ℕ). walk_on_words made (find_trunk plan left) state words) groups at past
    ∙ live_end conn_eq conn_word 42 19 (value_after made) None state words
