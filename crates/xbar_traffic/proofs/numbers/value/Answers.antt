use Rattle.std.proofs.Common.{◌≡◌, ◌<◌, ◌+◌, get_or, arith}
use Rattle.std.specs.{Char.digit_value, Int.IsInRange}
use Rattle.std.proofs.lemmas.{Bool.Decides.nat_tests, Int.Digits.{digits_more, digits_value_more}, Str.Parse.{digit_at, digits_value-take-le}}
use Rattle.xbar_traffic.proofs.numbers.value.Goals as goal

pub returns-then-not-is_ascii_digit-clause-reads :
    goal.returns-then-not-is_ascii_digit-clause-reads
returns-then-not-is_ascii_digit-clause-reads c all small =
    let digit : IsInRange 48 57 (get_or c.args.digits.now c.loop-byte.byte-index 0) = digit_at _ _ all c.loop-byte-test.true in
    absurd (grind (arith, nat_tests))

pub returns-then-number-from-clause-reads : goal.returns-then-number-from-clause-reads
returns-then-number-from-clause-reads c all small =
    let ds = c.args.digits.now in
    let i = c.loop-byte.byte-index in
    let digit : digit_value (get_or ds i 0) ≡ c.from.result = grind (arith, nat_tests) in
    absurd (omega
    (arith, digits_value_more 10 ds i c.loop-byte-test.true, digits_value-take-le 10 ds (i + 1) (omega arith), c.loop-byte.invariant.value, digit, small))

pub loop-byte-preserved : goal.loop-byte-preserved
loop-byte-preserved c =
    let ds = c.args.digits.now in
    let i = c.loop-byte.byte-index in
    let digit : digit_value (get_or ds i 0) ≡ c.from.result = grind (arith, nat_tests) in
    let below : digit_value (get_or ds i 0) < 10 = grind (arith, nat_tests) in
    record {
      digits = digits_more 10 ds i c.loop-byte-test.true c.loop-byte.invariant.digits below;
      value = omega (arith, digits_value_more 10 ds i c.loop-byte-test.true, c.loop-byte.invariant.value, digit);
      small = grind (arith, nat_tests);
    }
