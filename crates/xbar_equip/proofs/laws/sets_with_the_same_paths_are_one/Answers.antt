use Rattle.xbar_equip.proofs.PathSets.{same_set}
use Rattle.xbar_equip.proofs.laws.sets_with_the_same_paths_are_one.Goals as goal

pub returns : goal.returns
returns c = same_set
