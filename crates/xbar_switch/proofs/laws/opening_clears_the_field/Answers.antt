use Rattle.xbar_switch.proofs.Fields.{field_of-open_same}
use Rattle.xbar_switch.proofs.laws.opening_clears_the_field.Goals as goal

pub returns : goal.returns
returns c shape word v in_word = field_of-open_same shape word v
