use Rattle.xbar_switch.proofs.Fields.{field_of-open_other, above_fields-open}
use Rattle.xbar_switch.proofs.laws.opening_keeps_the_rest.Goals as goal

pub returns-clause-others : goal.returns-clause-others
returns-clause-others c shape word v other in_word = field_of-open_other shape word v other

pub returns-clause-above : goal.returns-clause-above
returns-clause-above c = above_fields-open
