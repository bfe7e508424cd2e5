use Rattle.std.proofs.Common.{◌≡◌, false, take}
use Rattle.{std.specs.List.list_any, xbar_equip.specs.Paths.has_line}
use Rattle.xbar_office.proofs.sets.is_line_idle.Given as goal

abbrev pub invariant-loop-path : goal.invariant-loop-path
invariant-loop-path l = list_any (has_line l.line) (take l.path-index l.paths) ≡ false
