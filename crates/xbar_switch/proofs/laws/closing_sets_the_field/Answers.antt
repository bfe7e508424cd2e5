use Rattle.xbar_switch.proofs.Fields.{field_of-close_same}
use Rattle.xbar_switch.proofs.laws.closing_sets_the_field.Goals as goal

pub returns : goal.returns
returns c shape word v h in_word is_field = field_of-close_same shape word v h
