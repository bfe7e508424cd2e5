use Rattle.std.specs.Prelude.{◌≡◌, ℕ, ◌%◌, ◌^◌, ⊤}
use Rattle.turns.specs.declared.clock.Clock.{Clock}
use Rattle.turns.specs.declared.clock.Clock.TheVariants.{Counted, Ghost}
use Rattle.turns.specs.declared.operation.Operation.{Operation}
use Rattle.turns.specs.declared.operation.Operation.TheVariants.{Load, Add}

-- the operation on the turn word by which an actor takes its turn, while it holds all its locks
abbrev pub turning : Clock → Operation
turning Counted = Add 1
turning Ghost = Load

-- the turn word may be this number after so many turns; and so a record may have this number as its
-- turn if so many records come before it
abbrev pub IsCount : Clock → ℕ → ℕ → Type 0
IsCount Counted number count = number ≡ count % 2 ^ 64
IsCount Ghost number count = number ≡ 0

-- turns have numbers
abbrev pub IsCounted : Clock → Type 0
IsCounted Counted = ⊤
IsCounted Ghost = ⊥
