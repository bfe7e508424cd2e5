use Rattle.std.proofs.Common.{◌∷◌, ◌++◌, ◌∙◌, [], arith}
use Rattle.xbar_report.specs.Parts.{end_name, end_trial, end_first, end_second}
use Rattle.xbar_report.proofs.LineFields.{name_has_no_comma, trial_has_no_comma, first_lacks, second_lacks, end_cut}
use Rattle.xbar_report.proofs.fields.end_of.Goals as goal

pub returns-in_err-name : goal.returns-in_err-name
returns-in_err-name c end range e =
    absurd (c.in_err-name.ensures (end_name end) (end_trial end) (end_first end) (end_second end ++ 10 ∷ []) (name_has_no_comma end)
    (trial_has_no_comma end range) (first_lacks 44 end (omega arith)) (e ∙ end_cut end))

pub returns-in_err-second : goal.returns-in_err-second
returns-in_err-second c end range e =
    let at =
    c.in_ok-name.ensures (end_name end) (end_trial end) (end_first end) (end_second end ++ 10 ∷ []) (name_has_no_comma end) (trial_has_no_comma end range)
    (first_lacks 44 end (omega arith)) (e ∙ end_cut end) in
    absurd (c.in_err-second.ensures.first (end_second end) [] (second_lacks 10 end (omega arith)) at.3)

pub returns : goal.returns
returns c end range e =
    let at =
    c.in_ok-name.ensures (end_name end) (end_trial end) (end_first end) (end_second end ++ 10 ∷ []) (name_has_no_comma end) (trial_has_no_comma end range)
    (first_lacks 44 end (omega arith)) (e ∙ end_cut end) in
    let at_second = c.in_ok-second.ensures.first (end_second end) [] (second_lacks 10 end (omega arith)) at.3 in
    c.named_end.ensures end range at.0 at.1 at.2 at_second.0
