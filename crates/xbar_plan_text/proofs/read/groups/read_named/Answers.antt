use Rattle.std.proofs.Common.{rules, ◌≡◌, sym, ◌∙◌, ap, Some, Err}
use Rattle.xbar_plan_text.proofs.Items.{passed_on, group_reads, group_nameless, group_kindless, group_placeless}
use Rattle.xbar_plan_text.proofs.read.groups.read_named.Goals as goal

pub returns-in_err-name : goal.returns-in_err-name
returns-in_err-name c =
    let is : c.from_residual.result ≡ Err c.in_err-name.field-0.0 = search rules in
    rw is (passed_on c.in_err-name.field-0.0 (group_nameless c.args.name.now c.args.kind.now c.args.members.now) c.in_err-name.ensures)

pub returns-in_default : goal.returns-in_default
returns-in_default c =
    group_kindless c.args.name.now c.args.kind.now c.args.members.now _ c.in_ok-name.ensures (sym c.read_kind.ensures ∙ c.in_default.is)

pub returns-in_err-members : goal.returns-in_err-members
returns-in_err-members c =
    let is : c.from_residual-in_err-members.result ≡ Err c.in_err-members.field-0.0 = search rules in
    rw is (passed_on c.in_err-members.field-0.0 (group_placeless c.args.name.now c.args.kind.now c.args.members.now _ _ c.in_ok-name.ensures
    (sym c.read_kind.ensures ∙ c.in-Some.is)) c.in_err-members.ensures)

pub returns : goal.returns
returns c =
    group_reads c.args.name.now c.args.kind.now c.args.members.now _ _ _ c.in_ok-name.ensures (sym c.read_kind.ensures ∙ c.in-Some.is) c.in_ok-members.ensures
    ∙ ap (λ z. Some z) (sym c.new.ensures)
