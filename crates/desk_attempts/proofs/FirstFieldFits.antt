-- A call through the field `predicted` owes that an `Attempt` fits in memory. That a `Speculation`
-- does is known there, and its size is made of that of its first field, as here.
use Rattle.std.proofs.Common.{◌+◌, ◌<◌, ◌^◌, ℕ, arith}
use prog.Memory.{up}

-- Where a struct of two fields fits in memory, its first field does. `size` is the size of that
-- field, `other` that of the second, and `up` rounds up to an alignment.
pub first_field_fits : (whole second first size other : ℕ)
    → up whole (up second (up first 0 + size) + other) < 2 ^ 63 → size < 2 ^ 63
first_field_fits whole second first size other fits = omega arith
