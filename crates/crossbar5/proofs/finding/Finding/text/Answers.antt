use Rattle.std.proofs.Common.{◌≡◌, ◌∙◌, ℕ, List, ◌++◌, sym, ap, ap₂, subst, IfOk, codes, decimal, string_bytes}
use Rattle.crossbar5.{specs.Audit.finding_text, proofs.FindingTexts.{legal_text, reply_text}}
use Rattle.crossbar5.proofs.finding.Finding.text.Goals as goal

pub returns-in-Legal : goal.returns-in-Legal
returns-in-Legal c =
    let is = ap finding_text c.in-Legal.is ∙ legal_text c.in-Legal.count c.in-Legal.standing in
    subst (λ (t : List ℕ). IfOk c.format.result (λ text. string_bytes text ≡ t)) (sym is) c.format.ensures.ok

pub returns-in_ok-right-in-WrongReply : goal.returns-in_ok-right-in-WrongReply
returns-in_ok-right-in-WrongReply c =
    let given = c.in-WrongReply.given in
    let right = c.in-WrongReply.right in
    let texts =
    ap₂ (λ (a b : List ℕ). codes "AUDIT,REPLY," ++ (decimal given.turn ++ (codes "\n" ++ (a ++ b)))) c.in_ok-given-in-WrongReply.ensures
    c.in_ok-right-in-WrongReply.ensures in
    let is = ap finding_text c.in-WrongReply.is ∙ reply_text given right ∙ sym texts in
    subst (λ (t : List ℕ). IfOk c.format-in-WrongReply.result (λ text. string_bytes text ≡ t)) (sym is) c.format-in-WrongReply.ensures.ok
