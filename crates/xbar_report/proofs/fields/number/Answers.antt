use Rattle.std.proofs.Common.{◌∙◌, ap, IsUtf8, decimal}
use Rattle.std.{specs.Result.result_ok, proofs.lemmas.{Fmt.{IsAscii-decimal, parse-decimal}, Str.IsUtf8-from_ascii}}
use Rattle.xbar_report.proofs.fields.number.Goals as goal

pub returns-in-Err : goal.returns-in-Err
returns-in-Err c number small same =
    let text : IsUtf8 c.args.text.now = rw same (IsUtf8-from_ascii (decimal number) (IsAscii-decimal number small)) in
    absurd (c.in-Err.ensures.cases.0 text)

pub returns-in-Ok : goal.returns-in-Ok
returns-in-Ok c number small same =
    let text = c.in-Ok.ensures.cases.0 ∙ same in
    c.ok.ensures.value ∙ ap result_ok (parse-decimal 64 number c.in-Ok.text.now c.parse.result small small text c.parse.ensures.value.0)
