use Rattle.xbar_switch.proofs.Fields.{field_of-close_other, above_fields-close}
use Rattle.xbar_switch.proofs.laws.closing_keeps_the_rest.Goals as goal

pub returns-clause-others : goal.returns-clause-others
returns-clause-others c shape word v h other in_word is_field in_range other_is =
    field_of-close_other shape word v h other in_range

pub returns-clause-above : goal.returns-clause-above
returns-clause-above c shape word v h in_word = above_fields-close shape word v h
