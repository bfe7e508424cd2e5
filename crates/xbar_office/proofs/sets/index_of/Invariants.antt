use Rattle.std.proofs.Common.{◌≡◌, ◌++◌, take, drop}
use Rattle.xbar_equip.specs.Paths.{without_path}
use Rattle.xbar_office.proofs.sets.index_of.Given as goal

abbrev pub invariant-loop-at : goal.invariant-loop-at
invariant-loop-at l = without_path l.paths l.path ≡ take l.at l.paths ++ without_path (drop l.at l.paths) l.path
