use Rattle.std.proofs.Common.{rules, ◌≡◌, Err, ap, option_and_then}
use Rattle.xbar_plan_text.specs.{Document.plan_of, Refusal.{missing_in, missing_list, malformed_in, malformed_of_document}}
use Rattle.xbar_plan_text.proofs.Stages.{bytes_refused, bytes_read, not_toml, reading}
use Rattle.xbar_plan_text.proofs.read.read.Goals as goal

pub returns-in_err-document : goal.returns-in_err-document
returns-in_err-document c =
    let is : c.from_residual.result ≡ Err c.in_err-document.field-0.0 = search rules in
    rw is (not_toml (plan_of c.args.bytes.now) (missing_in c.args.bytes.now) (malformed_in c.args.bytes.now) _ _ c.in_err-document.ensures
    (bytes_refused c.args.bytes.now))

pub returns : goal.returns
returns c =
    reading _ _ _ _ _ _ c.read_document.result (bytes_read c.args.bytes.now _ c.in_ok-document.ensures)
    (ap (option_and_then missing_list) c.in_ok-document.ensures) (ap (option_and_then malformed_of_document) c.in_ok-document.ensures) c.read_document.ensures
