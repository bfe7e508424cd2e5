use Rattle.std.proofs.Common.{◌≡◌, ◌∷◌, ◌∙◌, [], ℕ, arith, Option, Some, None, decimal}
use Rattle.{xbar_office.specs.declared.reply.Card.Card, xbar_report.specs.{declared.line.TroubleLine.TroubleLine, Text.line_with}}
use Rattle.xbar_report.proofs.{LineFields.{decimal_has_no_comma, line_cut, link_lacks}, FieldsRead.{trouble_of, trouble_read}}
use Rattle.xbar_equip.specs.Link.{link_text}
use Rattle.xbar_report.proofs.fields.trouble_of.Goals as goal

none_is_not_some : {A : Type 0} {x : A} → ◌≡◌ {A = Option A} None (Some x) → ⊥
none_is_not_some e = cc

same_trouble : (turn job_no : ℕ) (card : Card) (t : TroubleLine) → Some turn ≡ Some t.turn → Some job_no ≡ Some t.job_no → Some card ≡ Some t.card
    → Some (record { turn = turn; job_no = job_no; card = card }) ≡ Some t
same_trouble turn job_no card t e1 e2 e3 =
    let a : turn ≡ t.turn = cc in
    let b : job_no ≡ t.job_no = cc in
    let d : card ≡ t.card = cc in
    λ i. Some (record { turn = a i; job_no = b i; card = d i })

pub returns-in_err-_name : goal.returns-in_err-_name
returns-in_err-_name c t range e = absurd (trouble_of t range (λ _ _ _ _. ⊥) _ e c.in_err-_name.ensures)

pub returns-in_err-trial : goal.returns-in_err-trial
returns-in_err-trial c t range e =
    let at = trouble_read t range _ _ _ _ _ e c.in_ok-_name.ensures in
    absurd (c.in_err-trial.ensures.first (decimal t.card.trial) (line_with (link_text t.card.link ∷ []))
    (decimal_has_no_comma t.card.trial (omega (arith, range.card.trial))) (at.2 ∙ line_cut (decimal t.card.trial) (link_text t.card.link) []))

pub returns-in_err-link : goal.returns-in_err-link
returns-in_err-link c t range e =
    let at = trouble_read t range _ _ _ _ _ e c.in_ok-_name.ensures in
    let at_trial =
    c.in_ok-trial.ensures.first (decimal t.card.trial) (line_with (link_text t.card.link ∷ []))
    (decimal_has_no_comma t.card.trial (omega (arith, range.card.trial))) (at.2 ∙ line_cut (decimal t.card.trial) (link_text t.card.link) []) in
    absurd (c.in_err-link.ensures.first (link_text t.card.link) [] (link_lacks 10 t.card.link (omega arith)) at_trial.1)

pub returns-in_err-number : goal.returns-in_err-number
returns-in_err-number c t range e =
    let at = trouble_read t range _ _ _ _ _ e c.in_ok-_name.ensures in
    absurd (none_is_not_some (c.in_err-number.ensures t.turn range.turn at.0))

pub returns-in_err-number_u32 : goal.returns-in_err-number_u32
returns-in_err-number_u32 c t range e =
    let at = trouble_read t range _ _ _ _ _ e c.in_ok-_name.ensures in
    absurd (none_is_not_some (c.in_err-number_u32.ensures t.job_no range.job_no at.1))

pub returns-in_err-card_of : goal.returns-in_err-card_of
returns-in_err-card_of c t range e =
    let at = trouble_read t range _ _ _ _ _ e c.in_ok-_name.ensures in
    let at_trial =
    c.in_ok-trial.ensures.first (decimal t.card.trial) (line_with (link_text t.card.link ∷ []))
    (decimal_has_no_comma t.card.trial (omega (arith, range.card.trial))) (at.2 ∙ line_cut (decimal t.card.trial) (link_text t.card.link) []) in
    let at_link = c.in_ok-link.ensures.first (link_text t.card.link) [] (link_lacks 10 t.card.link (omega arith)) at_trial.1 in
    absurd (none_is_not_some (c.in_err-card_of.ensures t.card range.card at_trial.0 at_link.0))

pub returns : goal.returns
returns c t range e =
    let at = trouble_read t range _ _ _ _ _ e c.in_ok-_name.ensures in
    let at_trial =
    c.in_ok-trial.ensures.first (decimal t.card.trial) (line_with (link_text t.card.link ∷ []))
    (decimal_has_no_comma t.card.trial (omega (arith, range.card.trial))) (at.2 ∙ line_cut (decimal t.card.trial) (link_text t.card.link) []) in
    let at_link = c.in_ok-link.ensures.first (link_text t.card.link) [] (link_lacks 10 t.card.link (omega arith)) at_trial.1 in
    same_trouble c.in_ok-number.field-0 c.in_ok-number_u32.field-0 c.in_ok-card_of.field-0 t (c.in_ok-number.ensures t.turn range.turn at.0)
    (c.in_ok-number_u32.ensures t.job_no range.job_no at.1) (c.in_ok-card_of.ensures t.card range.card at_trial.0 at_link.0)
