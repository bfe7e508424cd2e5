use Rattle.std.proofs.Common.{◌≡◌, drop, find}
use Rattle.xbar_equip.specs.Paths.{has_line}
use Rattle.xbar_office.proofs.standing.path_of.Given as goal

abbrev pub invariant-loop-path : goal.invariant-loop-path
invariant-loop-path l = find (has_line l.line) l.paths ≡ find (has_line l.line) (drop l.path-index l.paths)
