use Rattle.std.proofs.Common.{◌≡◌, ◌++◌, take, drop}
use Rattle.xbar_equip.specs.Paths.{with_path}
use Rattle.xbar_office.proofs.sets.insertion_index.Given as goal

abbrev pub invariant-loop-at : goal.invariant-loop-at
invariant-loop-at l = with_path l.paths l.path ≡ take l.at l.paths ++ with_path (drop l.at l.paths) l.path
