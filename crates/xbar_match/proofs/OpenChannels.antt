-- the channel test on words is the channel test in a set
use Rattle.std.proofs.Common.{◌≡◌, ℕ, ◌<◌, ◌==◌, ◌&&◌, List, slice_index, sym, ◌∙◌, ap, arith, option_map}
use Rattle.xbar_equip.specs.{First.first_below, Len.{Line, IsLine}, Ten.{TrunkPlace, IsTrunkPlace}, Paths.{channel_in_turn, channel_test}}
use Rattle.{xbar_equip.specs.{Word.{LineSwitch, LineJunctor, TrunkSwitch}, declared.path.Path.Path}, xbar_switch.specs.Field.field_of}
use Rattle.{xbar_switch.specs.declared.shape.Shape.{Shape, TheVariants.Other}, xbar_match.specs.{Switches.word_of, Shows.{AreInRange, ShowsPaths}}}
use Rattle.xbar_match.{specs.Channels.{MatchWords, match_words, first_open_channel, ShowsLinks}, proofs.SwitchShapes.shape_at-line_switch}
use Rattle.xbar_match.proofs.{SwitchShapes.{shape_at-line_junctor, shape_at-trunk_switch}, IdleFields.{line_link-field, junctor-field, trunk_link-field}}

-- if fields and links agree, both tests find the same channel
pub first_open_channel-shown : (words : MatchWords) (paths : List Path) (line : Line) (place : TrunkPlace) (start : ℕ) → ShowsLinks words paths line place
    → channel_test paths line place start ≡ first_open_channel words place.frame start
first_open_channel-shown words paths line place start shows =
    let below : (k : ℕ) → channel_in_turn start k < 10 = λ k. omega arith in
    λ i. option_map (channel_in_turn start) (first_below (λ k.
    shows.line_links (channel_in_turn start k) (below k) i && shows.junctors (channel_in_turn start k) (below k) i
    && shows.trunk_links (channel_in_turn start k) (below k) i) 10)

-- words that show the paths show the links that the test looks at
pub shows_links-shown : (words junctors : List ℕ) (paths : List Path) (line : Line) (place : TrunkPlace) → ShowsPaths words paths → AreInRange paths
    → IsLine line → IsTrunkPlace place
    → ((n : ℕ) → n < 10 → slice_index junctors n ≡ word_of words (LineJunctor line.frame n))
    → ShowsLinks (match_words (word_of words (LineSwitch line.frame line.switch)) junctors (word_of words (TrunkSwitch place.frame place.switch))) paths line
    place
shows_links-shown words junctors paths line place shows ranges l p read =
    let lf = l.frame in let ls = l.switch in let pf = p.frame in let ps = p.switch in
    record {
      line_links = λ n below.
          line_link-field paths (word_of words (LineSwitch line.frame line.switch)) line.frame line.switch n ranges lf ls below (shows.switch _ (omega arith))
          ∙ ap (λ (s : Shape). field_of s (word_of words (LineSwitch line.frame line.switch)) n == 0) (shape_at-line_switch line.frame line.switch lf ls);
      junctors = λ n below.
          junctor-field paths (word_of words (LineJunctor line.frame n)) line.frame n place.frame ranges lf below pf (shows.switch _ (omega arith))
          ∙ ap (λ (s : Shape). field_of s (word_of words (LineJunctor line.frame n)) place.frame == 0) (shape_at-line_junctor line.frame n lf below)
          ∙ ap (λ (w : ℕ). field_of Other w place.frame == 0) (sym (read n below));
      trunk_links = λ n below.
          trunk_link-field paths (word_of words (TrunkSwitch place.frame place.switch)) place.frame place.switch n ranges pf ps below
          (shows.switch _ (omega arith))
          ∙ ap (λ (s : Shape). field_of s (word_of words (TrunkSwitch place.frame place.switch)) n == 0) (shape_at-trunk_switch place.frame place.switch);
    }
