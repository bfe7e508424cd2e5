use Rattle.std.specs.Prelude.{ℕ, ◌+◌, ◌-◌, ◌%◌, ◌^◌, ◌<◌, ◌==◌, bit_and, bit_or, if◌then◌else◌, ⊤}
use Rattle.turns.specs.declared.operation.Operation.{Operation}
use Rattle.turns.specs.declared.operation.Operation.TheVariants.{Load, Or, And, Add, Sub, Store, CompareExchange}

-- what an operation makes of the number that it finds in a word of 64 bits
abbrev pub applied : Operation → ℕ → ℕ
applied Load found = found
applied (Or bits) found = bit_or found bits
applied (And mask) found = bit_and found mask
applied (Add more) found = (found + more) % 2 ^ 64
applied (Sub less) found = (found + (2 ^ 64 - less)) % 2 ^ 64
applied (Store value) found = value
applied (CompareExchange expected new) found = if found == expected then new else found

-- an operation leaves 64 bits in a word of 64 bits
abbrev pub FitsWord : Operation → Type 0
FitsWord Load = ⊤
FitsWord (Or bits) = bits < 2 ^ 64
FitsWord (And mask) = ⊤
FitsWord (Add more) = ⊤
FitsWord (Sub less) = ⊤
FitsWord (Store value) = value < 2 ^ 64
FitsWord (CompareExchange expected new) = new < 2 ^ 64
