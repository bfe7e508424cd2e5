use Rattle.{std.proofs.lemmas.Nat.and_mask, xbar_switch.specs.{Shape.width, Field.field_of}}
use Rattle.xbar_switch.proofs.word.field.Goals as goal

pub returns-clause-value : goal.returns-clause-value
unfolding field_of
returns-clause-value c =
    rw (c.field_shift.ensures.value, c.lowest_field.ensures) (and_mask _ (width c.args.shape))
