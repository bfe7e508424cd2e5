use Rattle.std.proofs.Common.{rules, ◌≡◌, sym, ◌∙◌, Err}
use Rattle.xbar_plan_text.proofs.Items.{passed_on, entry_reads, entry_codeless, entry_nameless}
use Rattle.xbar_plan_text.proofs.read.codes.read_coded.Goals as goal

pub returns-in_default : goal.returns-in_default
returns-in_default c = entry_codeless c.args.code.now c.args.names.now (sym c.read_code.ensures ∙ c.in_default.is)

pub returns-in_err-names : goal.returns-in_err-names
returns-in_err-names c =
    let is : c.from_residual.result ≡ Err c.in_err-names.field-0.0 = search rules in
    rw is (passed_on c.in_err-names.field-0.0 (entry_nameless c.args.code.now c.args.names.now _ (sym c.read_code.ensures ∙ c.in-Some.is))
    c.in_err-names.ensures)

pub returns : goal.returns
returns c = entry_reads c.args.code.now c.args.names.now _ _ (sym c.read_code.ensures ∙ c.in-Some.is) c.in_ok-names.ensures
