use Rattle.std.proofs.Common.{◌≡◌, ℕ, ◌<◌, Bool, true, false, List, sym, ◌∙◌, ap, arith, Option, Some, None, option_map}
use Rattle.xbar_equip.specs.{Len.Line, Ten.TrunkPlace, Paths.{channel_in_turn, channel_test}, declared.path.Path.Path}
use Rattle.xbar_equip.proofs.FirstNumber.{first_below-found, first_below-none}
use Rattle.xbar_match.{specs.Channels.{MatchWords, match_words, is_open_channel, first_open_channel, ShowsLinks}, proofs.OpenChannels.first_open_channel-shown}
use Rattle.xbar_match.proofs.channels.match_channel.Goals as goal

-- the first open channel from the start on, or None if there is none
module _ (words : MatchWords) (t start : ℕ) where
  abbrev is_open : ℕ → Bool
  is_open k = is_open_channel words t (channel_in_turn start k)

  found : (k : ℕ) → k < 10 → is_open k ≡ true → ((j : ℕ) → j < k → is_open j ≡ false) → Some (channel_in_turn start k) ≡ first_open_channel words t start
  found k below here earlier = sym (ap (option_map (channel_in_turn start)) (first_below-found is_open 10 k below here earlier))

  none : ((j : ℕ) → j < 10 → is_open j ≡ false) → None ≡ first_open_channel words t start
  none all = sym (ap (option_map (channel_in_turn start)) (first_below-none is_open 10 all))

  -- on words that show the links, this is the channel test
  in_set : (paths : List Path) (line : Line) (place : TrunkPlace) (result : Option ℕ) → result ≡ first_open_channel words t start → place.frame ≡ t
      → ShowsLinks words paths line place → result ≡ channel_test paths line place start
  in_set paths line place result is at shows =
      is ∙ ap (λ (frame : ℕ). first_open_channel words frame start) (sym at) ∙ sym (first_open_channel-shown words paths line place start shows)

pub returns-then-is_open-clause-fields : goal.returns-then-is_open-clause-fields
returns-then-is_open-clause-fields c =
    let words = match_words c.args.line_word c.args.junctor_words.now c.args.trunk_word in
    ap Some c.new.ensures ∙ found words c.args.t c.args.start c.loop-k.k c.loop-k-test.true (sym c.is_open.ensures ∙ c.if-is_open.true) c.loop-k.invariant

pub returns-then-is_open-clause-links : goal.returns-then-is_open-clause-links
returns-then-is_open-clause-links c =
    λ paths line place. in_set (match_words c.args.line_word c.args.junctor_words.now c.args.trunk_word) c.args.t c.args.start paths line place _
    (returns-then-is_open-clause-fields c)

pub returns-clause-fields : goal.returns-clause-fields
returns-clause-fields c =
    none (match_words c.args.line_word c.args.junctor_words.now c.args.trunk_word) c.args.t c.args.start (λ j below. c.loop-k.invariant j (omega arith))

pub returns-clause-links : goal.returns-clause-links
returns-clause-links c =
    λ paths line place. in_set (match_words c.args.line_word c.args.junctor_words.now c.args.trunk_word) c.args.t c.args.start paths line place _
    (returns-clause-fields c)
