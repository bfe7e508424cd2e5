use Rattle.xbar_equip.proofs.WordNumbers.{distinct}
use Rattle.xbar_equip.proofs.laws.word_numbers_are_distinct.Goals as goal

pub returns : goal.returns
returns c = distinct
