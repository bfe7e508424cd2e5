use Rattle.std.proofs.Common.{◌≡◌, take, true}
use Rattle.{std.specs.List.list_all, xbar_plan.specs.Lawful.is_on_one_frame}
use Rattle.xbar_plan.proofs.lawful.places.first_apart.Given as goal

abbrev pub invariant-loop-member : goal.invariant-loop-member
invariant-loop-member l = list_all is_on_one_frame (take l.member-index l.members) ≡ true
