use Rattle.std.specs.Prelude.{◌≡◌, ℕ, ◌+◌, Option}
use Rattle.xbar_switch.specs.declared.shape.Shape.{Shape}
use Rattle.xbar_switch.specs.Field.{field_of, with_closed, with_open, ChangesField}

-- a switch: its shape, its word, and the place that its select magnets prepare, if any
pub record SwitchState : Type 0 where
  pub shape : Shape
  pub word : ℕ
  pub selection : Option ℕ

-- the value of field v of the switch
abbrev pub field_at : SwitchState → ℕ → ℕ
field_at switch v = field_of switch.shape switch.word v

-- field v becomes closed at this place, and nothing else changes
pub record Closes (old new : SwitchState) (v place : ℕ) : Type 0 where
  pub switch : new ≡ record old { word = with_closed old.shape old.word v place }
  pub field : ChangesField old.shape old.word new.word v (1 + place)

-- field v becomes open, and nothing else changes
pub record Opens (old new : SwitchState) (v : ℕ) : Type 0 where
  pub switch : new ≡ record old { word = with_open old.shape old.word v }
  pub field : ChangesField old.shape old.word new.word v 0
