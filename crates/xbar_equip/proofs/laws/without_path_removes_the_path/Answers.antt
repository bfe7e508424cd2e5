use Rattle.xbar_equip.proofs.PathSets.{set-without, without-in, in-without}
use Rattle.xbar_equip.proofs.laws.without_path_removes_the_path.Goals as goal

pub returns-clause-set : goal.returns-clause-set
returns-clause-set c = set-without

pub returns-clause-paths : goal.returns-clause-paths
returns-clause-paths c = λ paths path other set. (without-in paths path other set, λ both. in-without paths path other both.0 both.1)
