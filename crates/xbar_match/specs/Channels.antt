use Rattle.std.specs.Prelude.{◌≡◌, ℕ, ◌^◌, ◌<◌, ◌==◌, ◌&&◌, if◌then◌else◌, Bool, Option, List, slice_index}
use Rattle.std.specs.Int.{bit_at}
use Rattle.std.specs.Option.{option_map}
use Rattle.xbar_equip.specs.Len.{Line}
use Rattle.xbar_equip.specs.Ten.{TrunkPlace}
use Rattle.xbar_equip.specs.Path.{path_by, line_link, junctor, trunk_link}
use Rattle.xbar_equip.specs.First.{first_below}
use Rattle.xbar_equip.specs.Paths.{has_link, is_idle, channel_in_turn}
use Rattle.xbar_equip.specs.declared.path.Path.{Path}
use Rattle.xbar_switch.specs.Field.{field_of}
use Rattle.xbar_switch.specs.declared.shape.Shape.{Shape}
use Rattle.xbar_switch.specs.declared.shape.Shape.TheVariants.{Line as LineShape, Other}

-- the words that a channel test reads: the line switch, the ten line junctor switches of its
-- frame, and the trunk switch
pub record MatchWords : Type 0 where
  pub line : ℕ
  pub junctors : List ℕ
  pub trunk : ℕ

-- the record of these words
abbrev pub match_words : ℕ → List ℕ → ℕ → MatchWords
match_words line junctors trunk = record { line = line; junctors = junctors; trunk = trunk }

-- whether the three fields of channel n are open, for a place on trunk link frame t
abbrev pub is_open_channel : MatchWords → ℕ → ℕ → Bool
is_open_channel words t n =
    field_of LineShape words.line n == 0 && field_of Other (slice_index words.junctors n) t == 0
    && field_of Other words.trunk n == 0

-- the first channel whose three fields are open, from `start` on, with 0 after 9
abbrev pub first_open_channel : MatchWords → ℕ → ℕ → Option ℕ
first_open_channel words t start =
    option_map (channel_in_turn start)
    (first_below (λ k. is_open_channel words t (channel_in_turn start k)) 10)

-- the words show the links: the three links of each channel between line and place are idle
-- exactly if their fields are open
pub record ShowsLinks (words : MatchWords) (paths : List Path) (line : Line)
    (place : TrunkPlace) : Type 0 where
  pub line_links : (n : ℕ) → n < 10
      → is_idle (has_link (line_link (path_by line place n))) paths
      ≡ (field_of LineShape words.line n == 0)
  pub junctors : (n : ℕ) → n < 10
      → is_idle (has_link (junctor (path_by line place n))) paths
      ≡ (field_of Other (slice_index words.junctors n) place.frame == 0)
  pub trunk_links : (n : ℕ) → n < 10
      → is_idle (has_link (trunk_link (path_by line place n))) paths
      ≡ (field_of Other words.trunk n == 0)

-- bit n is 1 if field n of the word is open and 0 if it is closed, and no bit above the ten is set
pub record MarksOpenFields (shape : Shape) (word bits : ℕ) : Type 0 where
  pub fields : (n : ℕ) → n < 10 → bit_at bits n ≡ (if field_of shape word n == 0 then 1 else 0)
  pub others : bits < 2 ^ 10
