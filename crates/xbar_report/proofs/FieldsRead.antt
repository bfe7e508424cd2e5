-- what the fields of lines are read as
use Rattle.std.proofs.Common.{◌≡◌, ◌∷◌, ◌++◌, ◌∙◌, ℕ, [], List, append_assoc, refl, arith, codes, decimal}
use Rattle.{xbar_equip.specs.{Link.link_text, TextLines.Lacks}, xbar_office.specs.declared.reply.Record.Record}
use Rattle.xbar_report.specs.{Parts.{job_kind, job_line, job_dialled}, Ranges.{IsRecord, IsTroubleLine}}
use Rattle.xbar_report.specs.{Text.{end_fields, job_fields, line_with, record_line, trouble_line}, declared.line.TroubleLine.TroubleLine}
use Rattle.xbar_report.proofs.LineFields.{decimal_has_no_comma, job_cut, job_dialled_lacks, job_line_lacks, kind_has_no_comma}

-- a text that begins with three fields is read as these, with the rest after them
abbrev pub Reads : List ℕ → List ℕ → List ℕ → List ℕ → List ℕ → Type 0
Reads text first second third behind =
    (one two three rest : List ℕ) → Lacks 44 one → Lacks 44 two → Lacks 44 three → text ≡ one ++ 44 ∷ (two ++ 44 ∷ (three ++ 44 ∷ rest))
    → (first ≡ one) × (second ≡ two) × (third ≡ three) × (behind ≡ rest)

-- a record's line after its numbers
abbrev pub behind_numbers : Record → List ℕ
behind_numbers r = line_with (job_fields r.job ∷ end_fields r.reply.end ∷ [])

numbers_cut : (r : Record) → record_line r ≡ decimal r.turn ++ 44 ∷ (decimal r.job_no ++ 44 ∷ (decimal r.marker ++ 44 ∷ behind_numbers r))
numbers_cut r = simp append_assoc

module _ (r : Record) (range : IsRecord r) where
  -- the first fields of a record's line, whatever a text that has them shows
  pub numbers_of : (Shows : List ℕ → List ℕ → List ℕ → List ℕ → Type 0) (text : List ℕ) → text ≡ record_line r
      → ((one two three rest : List ℕ) → Lacks 44 one → Lacks 44 two → Lacks 44 three → text ≡ one ++ 44 ∷ (two ++ 44 ∷ (three ++ 44 ∷ rest))
      → Shows one two three rest)
      → Shows (decimal r.turn) (decimal r.job_no) (decimal r.marker) (behind_numbers r)
  numbers_of Shows text e shows =
      shows (decimal r.turn) (decimal r.job_no) (decimal r.marker) (behind_numbers r) (decimal_has_no_comma r.turn range.turn)
      (decimal_has_no_comma r.job_no (omega (arith, range.job_no))) (decimal_has_no_comma r.marker (omega (arith, range.marker))) (e ∙ numbers_cut r)

  pub job_of : (Shows : List ℕ → List ℕ → List ℕ → List ℕ → Type 0) (text : List ℕ) → text ≡ behind_numbers r
      → ((one two three rest : List ℕ) → Lacks 44 one → Lacks 44 two → Lacks 44 three → text ≡ one ++ 44 ∷ (two ++ 44 ∷ (three ++ 44 ∷ rest))
      → Shows one two three rest)
      → Shows (job_kind r.job) (job_line r.job) (job_dialled r.job) (line_with (end_fields r.reply.end ∷ []))
  job_of Shows text e shows =
      shows (job_kind r.job) (job_line r.job) (job_dialled r.job) (line_with (end_fields r.reply.end ∷ [])) (kind_has_no_comma r.job)
      (job_line_lacks 44 r.job (omega arith)) (job_dialled_lacks 44 r.job (omega arith)) (e ∙ job_cut r.job (end_fields r.reply.end) [])

  -- all fields that a record's line is read as
  pub all_read : (text first second third behind kind line dialled rest : List ℕ) → text ≡ record_line r → Reads text first second third behind
      → Reads behind kind line dialled rest
      → (first ≡ decimal r.turn) × (second ≡ decimal r.job_no) × (third ≡ decimal r.marker)
      × (kind ≡ job_kind r.job) × (line ≡ job_line r.job) × (dialled ≡ job_dialled r.job) × (rest ≡ line_with (end_fields r.reply.end ∷ []))
  all_read text first second third behind kind line dialled rest e numbers job =
      let a = numbers_of (λ one two three more. (first ≡ one) × (second ≡ two) × (third ≡ three) × (behind ≡ more)) text e numbers in
      let b = job_of (λ one two three more. (kind ≡ one) × (line ≡ two) × (dialled ≡ three) × (rest ≡ more)) behind a.3 job in
      (a.0, a.1, a.2, b.0, b.1, b.2, b.3)

-- and those of a trouble card's line
pub trouble_of : (t : TroubleLine) → IsTroubleLine t → (Shows : List ℕ → List ℕ → List ℕ → List ℕ → Type 0) (text : List ℕ) → text ≡ trouble_line t
    → ((one two three rest : List ℕ) → Lacks 44 one → Lacks 44 two → Lacks 44 three → text ≡ one ++ 44 ∷ (two ++ 44 ∷ (three ++ 44 ∷ rest))
    → Shows one two three rest)
    → Shows (codes "TROUBLE") (decimal t.turn) (decimal t.job_no) (line_with (decimal t.card.trial ∷ link_text t.card.link ∷ []))
trouble_of t range Shows text e shows =
    let cut : trouble_line t ≡ codes "TROUBLE" ++ 44
    ∷ (decimal t.turn ++ 44 ∷ (decimal t.job_no ++ 44 ∷ line_with (decimal t.card.trial ∷ link_text t.card.link ∷ []))) = simp append_assoc in
    shows (codes "TROUBLE") (decimal t.turn) (decimal t.job_no) (line_with (decimal t.card.trial ∷ link_text t.card.link ∷ [])) refl
    (decimal_has_no_comma t.turn range.turn) (decimal_has_no_comma t.job_no (omega (arith, range.job_no))) (e ∙ cut)

pub trouble_read : (t : TroubleLine) → IsTroubleLine t → (text name turn job_no rest : List ℕ) → text ≡ trouble_line t → Reads text name turn job_no rest
    → (turn ≡ decimal t.turn) × (job_no ≡ decimal t.job_no) × (rest ≡ line_with (decimal t.card.trial ∷ link_text t.card.link ∷ []))
trouble_read t range text name turn job_no rest e reads =
    let at = trouble_of t range (λ one two three more. (name ≡ one) × (turn ≡ two) × (job_no ≡ three) × (rest ≡ more)) text e reads in
    (at.1, at.2, at.3)
