use Rattle.std.proofs.Common.{◌∷◌, ◌∙◌, [], arith, decimal}
use Rattle.xbar_report.{specs.Text.line_with, proofs.LineFields.{decimal_has_no_end, line_cut}}
use Rattle.xbar_report.proofs.fields.count_of.Goals as goal

pub returns : goal.returns
returns c name count lacks fits e =
    let at_name = c.in_ok-_name.ensures.first name (line_with (decimal count ∷ [])) lacks (e ∙ line_cut name (decimal count) []) in
    let at_count = c.in_ok-count.ensures.first (decimal count) [] (decimal_has_no_end count (omega arith)) at_name.1 in
    c.number_u16.ensures count fits at_count.0
