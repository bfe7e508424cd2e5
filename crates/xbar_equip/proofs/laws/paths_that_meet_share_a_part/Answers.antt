use Rattle.xbar_equip.proofs.Meeting.{meet}
use Rattle.xbar_equip.proofs.laws.paths_that_meet_share_a_part.Goals as goal

pub returns : goal.returns
returns c = meet
