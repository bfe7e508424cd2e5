use Rattle.std.proofs.Common.{◌≡◌, take, true}
use Rattle.xbar_plan.specs.Lawful.{are_groups_known}
use Rattle.xbar_plan.proofs.lawful.routes.check_groups.Given as goal

abbrev pub invariant-loop-item : goal.invariant-loop-item
invariant-loop-item l = are_groups_known l.tables.groups.now (take l.item l.tables.routes.now) ≡ true
