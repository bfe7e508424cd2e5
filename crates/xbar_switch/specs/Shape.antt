use Rattle.std.specs.Prelude.{ℕ}
use Rattle.xbar_switch.specs.declared.shape.Shape.{Shape}
use Rattle.xbar_switch.specs.declared.shape.Shape.TheVariants.{Line, Other}

-- the width of a field in bits
abbrev pub width : Shape → ℕ
width Line = 6
width Other = 4

-- the number of places that a field can be closed at
abbrev pub places : Shape → ℕ
places Line = 30
places Other = 10
