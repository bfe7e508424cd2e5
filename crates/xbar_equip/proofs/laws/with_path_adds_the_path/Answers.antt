use Rattle.xbar_equip.proofs.PathSets.{set-with, with-in, in-with}
use Rattle.xbar_equip.proofs.laws.with_path_adds_the_path.Goals as goal

pub returns-clause-set : goal.returns-clause-set
returns-clause-set c = set-with

pub returns-clause-paths : goal.returns-clause-paths
returns-clause-paths c = λ paths path other. (with-in paths path other, in-with paths path other)
