use Rattle.xbar_equip.proofs.FirstNumber.{next_below-law}
use Rattle.xbar_equip.proofs.laws.next_below_is_the_next.Goals as goal

pub returns : goal.returns
returns c = next_below-law
