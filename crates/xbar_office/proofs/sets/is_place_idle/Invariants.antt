use Rattle.std.proofs.Common.{◌≡◌, false, take}
use Rattle.{std.specs.List.list_any, xbar_equip.specs.Paths.has_place}
use Rattle.xbar_office.proofs.sets.is_place_idle.Given as goal

abbrev pub invariant-loop-path : goal.invariant-loop-path
invariant-loop-path l = list_any (has_place l.place) (take l.path-index l.paths) ≡ false
