use Rattle.std.proofs.Common.{◌≡◌, drop}
use Rattle.xbar_office.specs.Trunks.{idle_trunk}
use Rattle.xbar_office.proofs.route.idle_trunk.Given as goal

abbrev pub invariant-loop-group : goal.invariant-loop-group
invariant-loop-group l = idle_trunk l.plan l.paths l.groups ≡ idle_trunk l.plan l.paths (drop l.group-index l.groups)
