use Rattle.std.proofs.Common.{◌≡◌, ◌<◌, ◌^◌, ◌∙◌, arith, ap, Some}
use Rattle.{std.specs.Str.Parse.digits_value, xbar_traffic.specs.Number.BeginsPlainly}
use Rattle.xbar_traffic.proofs.Decimals.{decimal_begins_plainly, decimal_has_value, decimal_is_digits, number_of_value}
use Rattle.xbar_traffic.proofs.numbers.read_number.Goals as goal

pub returns-then-not-begins_plainly-clause-reads : goal.returns-then-not-begins_plainly-clause-reads
returns-then-not-begins_plainly-clause-reads c number small same =
    let fits : number < 2 ^ 64 = omega arith in
    let plain : BeginsPlainly c.args.text.now = rw same (decimal_begins_plainly number fits) in
    let yes = c.begins_plainly.ensures.1 plain in
    let no = c.if-not-begins_plainly.true in
    cc

pub returns-clause-reads : goal.returns-clause-reads
returns-clause-reads c number small same =
    let fits : number < 2 ^ 64 = omega arith in
    let value : digits_value 10 c.args.text.now ≡ number = ap (digits_value 10) same ∙ decimal_has_value number fits in
    c.value.ensures.reads (rw same (decimal_is_digits number fits)) (omega (arith, value)) ∙ ap Some value

pub returns-clause-only : goal.returns-clause-only
returns-clause-only c =
    let plain = c.begins_plainly.ensures.0 cc in
    number_of_value c.args.text.now c.args.limit c.value.result plain (omega arith) c.value.ensures.only
