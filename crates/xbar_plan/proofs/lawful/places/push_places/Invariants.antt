use Rattle.std.proofs.Common.{◌≡◌, ◌++◌, take, flat_map}
use Rattle.xbar_plan.specs.Group.{places}
use Rattle.xbar_plan.proofs.lawful.places.push_places.Given as goal

abbrev pub invariant-loop-member : goal.invariant-loop-member
invariant-loop-member l = l.places.items ≡ l.fn.places.items ++ flat_map places (take l.member-index l.member-items)
