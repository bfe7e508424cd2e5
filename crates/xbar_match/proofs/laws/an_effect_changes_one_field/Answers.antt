use Rattle.xbar_match.proofs.OneField.{held_at-close_same, held_at-open_same, held_at-close_other, held_at-open_other}
use Rattle.xbar_match.proofs.laws.an_effect_changes_one_field.Goals as goal

pub returns-clause-closes : goal.returns-clause-closes
returns-clause-closes c = held_at-close_same

pub returns-clause-opens : goal.returns-clause-opens
returns-clause-opens c = held_at-open_same

pub returns-clause-closing_keeps : goal.returns-clause-closing_keeps
returns-clause-closing_keeps c = held_at-close_other

pub returns-clause-opening_keeps : goal.returns-clause-opening_keeps
returns-clause-opening_keeps c = held_at-open_other
