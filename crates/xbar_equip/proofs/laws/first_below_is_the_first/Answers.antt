use Rattle.xbar_equip.proofs.FirstNumber.{first_below-law}
use Rattle.xbar_equip.proofs.laws.first_below_is_the_first.Goals as goal

pub returns : goal.returns
returns c = first_below-law
