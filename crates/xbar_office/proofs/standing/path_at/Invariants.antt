use Rattle.std.proofs.Common.{◌≡◌, drop, find}
use Rattle.xbar_equip.specs.Paths.{has_place}
use Rattle.xbar_office.proofs.standing.path_at.Given as goal

abbrev pub invariant-loop-path : goal.invariant-loop-path
invariant-loop-path l = find (has_place l.place) l.paths ≡ find (has_place l.place) (drop l.path-index l.paths)
