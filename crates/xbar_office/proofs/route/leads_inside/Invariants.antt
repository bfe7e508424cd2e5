use Rattle.std.proofs.Common.{◌≡◌, true, take}
use Rattle.{std.specs.List.list_all, xbar_plan.specs.{Group.is_intra, Lawful.is_group}}
use Rattle.xbar_office.proofs.route.leads_inside.Given as goal

abbrev pub invariant-loop-group : goal.invariant-loop-group
invariant-loop-group l = list_all (is_group is_intra l.plan.groups) (take l.group-index l.groups) ≡ true
