use Rattle.std.specs.Prelude.{◌≡◌, ◌<◌, ℕ, List, length, slice_index}
use Rattle.xbar_equip.specs.Digits.{digit}

-- a text isn't empty and has no leading zero: it begins with a zero only if that is all of it
abbrev pub BeginsPlainly : List ℕ → Type 0
BeginsPlainly text = (0 < length text) × (slice_index text 0 ≡ digit 0 → length text ≡ 1)
