use Rattle.std.proofs.Common.{◌-◌, ◌*◌, ◌^◌, ◌<◌, ap, arith, pow_pos, ℕ}
use Rattle.{std.proofs.lemmas.Nat.shl_whole, xbar_switch.{specs.{Shape.width, Field.open_mask_of}, proofs.Fields.field-within_word}}
use Rattle.xbar_switch.proofs.word.open_mask.Goals as goal

pub returns : goal.returns
unfolding open_mask_of
returns c =
    let ones : 2 ^ width c.args.shape - 1 < 2 ^ width c.args.shape = omega (arith, pow_pos (width c.args.shape)) in
    rw (c.field_shift.ensures.value, c.lowest_field.ensures)
    (ap (λ (n : ℕ). 18446744073709551615 - n)
    (shl_whole (2 ^ width c.args.shape - 1) (width c.args.shape) (width c.args.shape * c.args.v) 64
    ones (field-within_word c.args.shape c.args.v c.requires)))
