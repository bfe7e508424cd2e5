use Rattle.std.proofs.Common.{◌+◌, ◌*◌}
use Rattle.{std.proofs.lemmas.Nat.shl_whole, xbar_switch.{specs.{Shape.width, Field.close_bits_of}, proofs.Fields.{place-fits, field-within_word}}}
use Rattle.xbar_switch.proofs.word.close_bits.Goals as goal

pub returns : goal.returns
unfolding close_bits_of
returns c =
    rw (c.from.ensures, c.field_shift.ensures.value)
    (shl_whole (1 + c.args.h) (width c.args.shape) (width c.args.shape * c.args.v) 64
    (place-fits c.args.shape c.args.h c.requires.place) (field-within_word c.args.shape c.args.v c.requires.field))
