use Rattle.std.proofs.Common.{◌≡◌, take}
use Rattle.xbar_plan.specs.Lawful.{all_places}
use Rattle.xbar_plan.proofs.lawful.places.places_of.Given as goal

abbrev pub invariant-loop-group : goal.invariant-loop-group
invariant-loop-group l = l.places.items ≡ all_places (take l.group-index l.groups)
