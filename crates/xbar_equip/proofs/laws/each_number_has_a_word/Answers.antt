use Rattle.xbar_equip.proofs.WordNumbers.{each_named}
use Rattle.xbar_equip.proofs.laws.each_number_has_a_word.Goals as goal

pub returns : goal.returns
returns c = λ n below. let w = each_named n below in (w.word, w.is_word, w.number)
