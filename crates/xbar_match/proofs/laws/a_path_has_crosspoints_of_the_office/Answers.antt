use Rattle.xbar_match.proofs.PathEffects.{crosspoint}
use Rattle.xbar_match.proofs.laws.a_path_has_crosspoints_of_the_office.Goals as goal

pub returns : goal.returns
returns c = crosspoint
