use Rattle.std.proofs.Common.{◌<◌, ◌^◌, ◌+◌, ◌*◌, arith, sym, ◌∙◌, ap}
use Rattle.xbar_equip.{specs.Digits.digit, proofs.DigitTexts.{next_below, nine_digits_fit, written_more, tested_more}}
use Rattle.xbar_equip.proofs.digits.number.Goals as goal

pub overflow_mul-number : goal.overflow_mul-number
overflow_mul-number c =
    let below : 10 * c.loop-byte.number + 0 < 10 ^ (c.loop-byte.byte-index + 1) =
    next_below _ _ 0 c.loop-byte.invariant.fits (omega arith) in
    omega (arith, nine_digits_fit (c.loop-byte.byte-index + 1) (10 * c.loop-byte.number + 0) below (omega arith))

pub overflow_add-number : goal.overflow_add-number
overflow_add-number c =
    let one_digit : c.from.result < 10 = omega (arith, c.in_ok-digit_value.ensures.value) in
    let below : 10 * c.loop-byte.number + c.from.result < 10 ^ (c.loop-byte.byte-index + 1) =
    next_below _ _ _ c.loop-byte.invariant.fits one_digit in
    omega (arith, nine_digits_fit (c.loop-byte.byte-index + 1) (10 * c.loop-byte.number + c.from.result) below (omega arith))

pub loop-byte-preserved : goal.loop-byte-preserved
loop-byte-preserved c =
    let one_digit : c.from.result < 10 = omega (arith, c.in_ok-digit_value.ensures.value) in
    let here = c.in_ok-digit_value.ensures.value.1 ∙ ap digit (sym c.from.ensures) in
    record {
      fits = next_below _ _ _ c.loop-byte.invariant.fits one_digit;
      written = written_more c.args.text.now c.loop-byte.byte-index c.loop-byte.number c.from.result (omega arith) one_digit c.loop-byte.invariant.written here;
      tested = tested_more c.args.text.now c.loop-byte.byte-index (omega arith) c.loop-byte.invariant.tested c.in_ok-digit_value.ensures.fault;
    }
