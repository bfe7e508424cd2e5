use Rattle.std.proofs.Common.{◌≡◌, ℕ, ◌+◌, ◌<◌, ◌==◌, false}
use Rattle.xbar_switch.specs.Field.{field_of}
use Rattle.xbar_match.proofs.fields.find_place.Given as goal

abbrev pub invariant-loop-v : goal.invariant-loop-v
invariant-loop-v l = (j : ℕ) → j < l.v → (field_of l.shape l.word j == 1 + l.place) ≡ false
