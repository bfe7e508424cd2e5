use Rattle.std.proofs.Common.{◌≡◌, ℕ, ◌<◌, false}
use Rattle.xbar_jobs.specs.Trunks.{is_bit_clear}
use Rattle.xbar_jobs.proofs.trunks.first_clear.Given as goal

abbrev pub invariant-loop-index : goal.invariant-loop-index
invariant-loop-index l = (k : ℕ) → k < l.index → is_bit_clear l.word k ≡ false
