-- the texts of findings, part by part
use Rattle.std.proofs.Common.{◌≡◌, ℕ, List, ◌∙◌, ◌++◌, ap, append_assoc, codes, decimal}
use Rattle.{xbar_office.specs.declared.reply.Record.Record, crossbar5.specs.Audit.{finding_text, record_text, counts_text}}
use Rattle.crossbar5.specs.declared.finding.{Finding.TheVariants.{Legal, WrongReply}, OfficeCounts.OfficeCounts}

pub legal_text : (count : ℕ) (standing : OfficeCounts)
    → finding_text (Legal count standing) ≡ codes "AUDIT,LEGAL," ++ (decimal count ++ (codes "\n" ++ counts_text standing))
legal_text count standing = ap (λ (rest : List ℕ). codes "AUDIT,LEGAL," ++ rest) (append_assoc (decimal count) (codes "\n") (counts_text standing))

pub reply_text : (given right : Record)
    → finding_text (WrongReply given right) ≡ codes "AUDIT,REPLY," ++ (decimal given.turn ++ (codes "\n" ++ (record_text given ++ record_text right)))
reply_text given right =
    let a = record_text given in
    let b = record_text right in
    ap (λ (rest : List ℕ). codes "AUDIT,REPLY," ++ rest)
    (ap (λ (front : List ℕ). front ++ b) (append_assoc (decimal given.turn) (codes "\n") a) ∙ append_assoc (decimal given.turn) (codes "\n" ++ a) b)
