use Rattle.std.specs.Prelude.{◌≡◌, ◌≢◌, ℕ, ◌+◌, ◌-◌, ◌*◌, ◌/◌, ◌%◌, ◌^◌, ◌<◌, bit_and, bit_or}
use Rattle.xbar_switch.specs.declared.shape.Shape.{Shape}
use Rattle.xbar_switch.specs.Shape.{width}

-- the value of field v of the word: 0 if open, else one plus the place
unfoldable pub field_of : Shape → ℕ → ℕ → ℕ
field_of shape word v = word / 2 ^ (width shape * v) % 2 ^ width shape

-- the bits of the word above its ten fields
unfoldable pub above_fields : Shape → ℕ → ℕ
above_fields shape word = word / 2 ^ (width shape * 10)

-- the bits that close an open field v at place h
unfoldable pub close_bits_of : Shape → ℕ → ℕ → ℕ
close_bits_of shape v h = (1 + h) * 2 ^ (width shape * v)

-- all 64 bits except those of field v
unfoldable pub open_mask_of : Shape → ℕ → ℕ
open_mask_of shape v = 2 ^ 64 - 1 - (2 ^ width shape - 1) * 2 ^ (width shape * v)

-- the word with field v, which was open, closed at place h
abbrev pub with_closed : Shape → ℕ → ℕ → ℕ → ℕ
with_closed shape word v h = bit_or word (close_bits_of shape v h)

-- the word with field v opened
abbrev pub with_open : Shape → ℕ → ℕ → ℕ
with_open shape word v = bit_and word (open_mask_of shape v)

-- field v changes to this value, and the rest of the word stays as it was
pub record ChangesField (shape : Shape) (old new v value : ℕ) : Type 0 where
  pub changed : field_of shape new v ≡ value
  pub others : (other : ℕ) → other < 10 → other ≢ v
      → field_of shape new other ≡ field_of shape old other
  pub above : above_fields shape new ≡ above_fields shape old
