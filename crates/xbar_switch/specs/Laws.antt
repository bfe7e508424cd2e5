use Rattle.std.specs.Prelude.{◌≡◌, ◌≢◌, ℕ, ◌+◌, ◌^◌, ◌<◌}
use Rattle.xbar_switch.specs.declared.shape.Shape.{Shape}
use Rattle.xbar_switch.specs.Shape.{places}
use Rattle.xbar_switch.specs.Field.{field_of, above_fields, with_closed, with_open}

-- closing an open field sets it to one plus the place
abbrev pub ClosingSetsField : Type 0
ClosingSetsField =
    (shape : Shape) (word v h : ℕ) → word < 2 ^ 64 → v < 10 → h < places shape
    → field_of shape word v ≡ 0
    → field_of shape (with_closed shape word v h) v ≡ 1 + h

-- closing a field keeps every other field
abbrev pub ClosingKeepsOthers : Type 0
ClosingKeepsOthers =
    (shape : Shape) (word v h other : ℕ) → word < 2 ^ 64 → v < 10 → h < places shape → other < 10
    → other ≢ v
    → field_of shape (with_closed shape word v h) other ≡ field_of shape word other

-- closing a field keeps the bits above the ten fields
abbrev pub ClosingKeepsAbove : Type 0
ClosingKeepsAbove =
    (shape : Shape) (word v h : ℕ) → word < 2 ^ 64 → v < 10 → h < places shape
    → above_fields shape (with_closed shape word v h) ≡ above_fields shape word

-- opening a field sets it to 0
abbrev pub OpeningClearsField : Type 0
OpeningClearsField =
    (shape : Shape) (word v : ℕ) → word < 2 ^ 64 → v < 10
    → field_of shape (with_open shape word v) v ≡ 0

-- opening a field keeps every other field
abbrev pub OpeningKeepsOthers : Type 0
OpeningKeepsOthers =
    (shape : Shape) (word v other : ℕ) → word < 2 ^ 64 → v < 10 → other < 10 → other ≢ v
    → field_of shape (with_open shape word v) other ≡ field_of shape word other

-- opening a field keeps the bits above the ten fields
abbrev pub OpeningKeepsAbove : Type 0
OpeningKeepsAbove =
    (shape : Shape) (word v : ℕ) → word < 2 ^ 64 → v < 10
    → above_fields shape (with_open shape word v) ≡ above_fields shape word
