use Rattle.std.proofs.Common.{◌≡◌, true, take}
use Rattle.{std.specs.List.list_all, xbar_equip.proofs.Ranges.is_path}
use Rattle.xbar_equip.proofs.laws.paths_are_in_range.Given as goal

abbrev pub invariant-loop-path : goal.invariant-loop-path
invariant-loop-path l = list_all is_path (take l.path-index l.paths) ≡ true
