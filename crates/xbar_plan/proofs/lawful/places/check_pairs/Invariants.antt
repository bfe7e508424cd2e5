use Rattle.std.proofs.Common.{◌≡◌, take, true}
use Rattle.xbar_plan.specs.Lawful.{are_pairs_on_one_frame}
use Rattle.xbar_plan.proofs.lawful.places.check_pairs.Given as goal

abbrev pub invariant-loop-item : goal.invariant-loop-item
invariant-loop-item l = are_pairs_on_one_frame (take l.item l.tables.groups.now) ≡ true
