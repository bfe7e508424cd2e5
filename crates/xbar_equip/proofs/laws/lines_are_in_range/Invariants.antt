use Rattle.std.proofs.Common.{◌≡◌, true, take}
use Rattle.{std.specs.List.list_all, xbar_equip.specs.Len.is_line}
use Rattle.xbar_equip.proofs.laws.lines_are_in_range.Given as goal

abbrev pub invariant-loop-line : goal.invariant-loop-line
invariant-loop-line l = list_all is_line (take l.line-index l.lines) ≡ true
