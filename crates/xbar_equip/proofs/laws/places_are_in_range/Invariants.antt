use Rattle.std.proofs.Common.{◌≡◌, true, take}
use Rattle.{std.specs.List.list_all, xbar_equip.specs.Ten.is_trunk_place}
use Rattle.xbar_equip.proofs.laws.places_are_in_range.Given as goal

abbrev pub invariant-loop-place : goal.invariant-loop-place
invariant-loop-place l = list_all is_trunk_place (take l.place-index l.places) ≡ true
