use Rattle.std.proofs.Common.{◌≡◌, ℕ, ◌+◌, ◌<◌, false}
use Rattle.xbar_office.specs.Members.{is_idle_at}
use Rattle.xbar_office.proofs.members.next_idle.Given as goal

abbrev pub invariant-loop-next : goal.invariant-loop-next
invariant-loop-next l = (k : ℕ) → l.index + 1 + k < l.next → is_idle_at l.paths l.members (l.index + 1 + k) ≡ false
