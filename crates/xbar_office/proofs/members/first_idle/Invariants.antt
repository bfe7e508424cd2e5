use Rattle.std.proofs.Common.{◌≡◌, ℕ, ◌<◌, false}
use Rattle.xbar_office.specs.Members.{is_idle_at}
use Rattle.xbar_office.proofs.members.first_idle.Given as goal

abbrev pub invariant-loop-index : goal.invariant-loop-index
invariant-loop-index l = (k : ℕ) → k < l.index → is_idle_at l.paths l.members k ≡ false
