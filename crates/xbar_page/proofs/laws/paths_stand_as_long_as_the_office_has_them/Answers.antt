use Rattle.xbar_page.proofs.StandingTurn.{standing_turn}
use Rattle.xbar_page.proofs.laws.paths_stand_as_long_as_the_office_has_them.Goals as goal

pub returns : goal.returns
returns c = standing_turn
