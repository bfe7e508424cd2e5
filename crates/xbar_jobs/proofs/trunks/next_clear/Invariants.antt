use Rattle.std.proofs.Common.{◌≡◌, ℕ, ◌+◌, ◌<◌, false}
use Rattle.xbar_jobs.specs.Trunks.{is_bit_clear}
use Rattle.xbar_jobs.proofs.trunks.next_clear.Given as goal

abbrev pub invariant-loop-next : goal.invariant-loop-next
invariant-loop-next l = (k : ℕ) → l.index + 1 + k < l.next → is_bit_clear l.word (l.index + 1 + k) ≡ false
