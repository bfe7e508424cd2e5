use Rattle.std.proofs.Common.{◌≡◌, ℕ, true, List, [], ◌∷◌, ◌++◌, map, refl, ap, ◌∙◌, arith, ◌==◌, not, codes, decimal, flat_map}
use Rattle.std.{specs.List.AllByRecursion, proofs.lemmas.List.Folds.list_all-append}
use Rattle.xbar_equip.{proofs.{Logic.both_hold, WholeLines.{lines_of_nothing, whole_line_first}}, specs.TextLines.{IsWholeLine, Lacks, lines}}
use Rattle.xbar_office.specs.declared.{job.Job.{Job, TheVariants.{Dial, Complete, Release}}, reply.End.{End, TheVariants.{DialTone, Connected, Released}}}
use Rattle.xbar_report.specs.{Line.{IsLine, line_text}, Parts.{job_kind, job_line, job_dialled, end_name, end_trial, end_first, end_second}, Ranges.IsEnd}
use Rattle.xbar_report.specs.{Text.{fields, line_with, job_fields, end_fields}, declared.line.Line.{Line, TheVariants.{Record, Trouble, Paths, Closed}}}
use Rattle.xbar_report.proofs.LineFields.{decimal_has_no_end, job_line_lacks, job_dialled_lacks, link_lacks, first_lacks, second_lacks}

lacks_append : (byte : ℕ) (a b : List ℕ) → Lacks byte a → Lacks byte b → Lacks byte (a ++ b)
lacks_append byte a b h h2 = list_all-append (λ c. not (c == byte)) a b ∙ both_hold _ _ h h2

-- fields that have no end of a line, parted by commas, have none
lacks_fields : (texts : List (List ℕ)) → AllByRecursion (Lacks 10) texts → Lacks 10 (fields texts)
lacks_fields [] h = refl
lacks_fields (x ∷ []) h = h.0
lacks_fields (x ∷ y ∷ ys) h = lacks_append 10 x (44 ∷ fields (y ∷ ys)) h.0 (both_hold true _ refl (lacks_fields (y ∷ ys) h.1))

whole_with : (texts : List (List ℕ)) → AllByRecursion (Lacks 10) texts → IsWholeLine (line_with texts)
whole_with texts h = record { front = fields texts; lacks = lacks_fields texts h; line_is = refl }

job_lacks : (job : Job) → Lacks 10 (job_fields job)
job_lacks (Dial line) = lacks_fields (job_kind (Dial line) ∷ job_line (Dial line) ∷ job_dialled (Dial line) ∷ [])
    (refl, (job_line_lacks 10 (Dial line) (omega arith), (job_dialled_lacks 10 (Dial line) (omega arith), tt)))
job_lacks (Complete line dialled) =
    lacks_fields (job_kind (Complete line dialled) ∷ job_line (Complete line dialled) ∷ job_dialled (Complete line dialled) ∷ [])
    (refl, (job_line_lacks 10 (Complete line dialled) (omega arith), (job_dialled_lacks 10 (Complete line dialled) (omega arith), tt)))
job_lacks (Release line) = lacks_fields (job_kind (Release line) ∷ job_line (Release line) ∷ job_dialled (Release line) ∷ [])
    (refl, (job_line_lacks 10 (Release line) (omega arith), (job_dialled_lacks 10 (Release line) (omega arith), tt)))

end_lacks : (end : End) → IsEnd end → Lacks 10 (end_fields end)
end_lacks (DialTone path trial) h =
    lacks_fields (end_name (DialTone path trial) ∷ end_trial (DialTone path trial) ∷ end_first (DialTone path trial) ∷ end_second (DialTone path trial) ∷ []) (
      refl,
      (
        decimal_has_no_end trial (omega (arith, h.1)),
        (first_lacks 10 (DialTone path trial) (omega arith), (second_lacks 10 (DialTone path trial) (omega arith), tt)),
      ),
    )
end_lacks (Connected calling called trial) h =
    lacks_fields (end_name (Connected calling called trial) ∷ end_trial (Connected calling called trial) ∷ end_first (Connected calling called trial)
    ∷ end_second (Connected calling called trial) ∷ []) (
      refl,
      (
        decimal_has_no_end trial (omega (arith, h.2)),
        (first_lacks 10 (Connected calling called trial) (omega arith), (second_lacks 10 (Connected calling called trial) (omega arith), tt)),
      ),
    )
end_lacks (Released own other) h =
    lacks_fields (end_name (Released own other) ∷ end_trial (Released own other) ∷ end_first (Released own other) ∷ end_second (Released own other) ∷ [])
    (refl, (refl, (first_lacks 10 (Released own other) (omega arith), (second_lacks 10 (Released own other) (omega arith), tt))))
end_lacks _ h = refl

-- the text of a line is a whole line
pub line_text_whole : (line : Line) → IsLine line → IsWholeLine (line_text line)
line_text_whole (Record r) h = whole_with (decimal r.turn ∷ decimal r.job_no ∷ decimal r.marker ∷ job_fields r.job ∷ end_fields r.reply.end ∷ []) (
  decimal_has_no_end r.turn h.turn,
  (
    decimal_has_no_end r.job_no (omega (arith, h.job_no)),
    (
      decimal_has_no_end r.marker (omega (arith, h.marker)),
      (job_lacks r.job, (end_lacks r.reply.end h.end, tt)),
    ),
  ),
)
line_text_whole (Trouble t) h = whole_with (codes "TROUBLE" ∷ decimal t.turn ∷ decimal t.job_no ∷ decimal t.card.trial ∷ _ ∷ []) (
  refl,
  (
    decimal_has_no_end t.turn h.turn,
    (
      decimal_has_no_end t.job_no (omega (arith, h.job_no)),
      (
        decimal_has_no_end t.card.trial (omega (arith, h.card.trial)),
        (link_lacks 10 t.card.link (omega arith), tt),
      ),
    ),
  ),
)
line_text_whole (Paths paths) h = whole_with (codes "PATHS" ∷ decimal paths ∷ []) (refl, (decimal_has_no_end paths (omega arith), tt))
line_text_whole (Closed closed) h = whole_with (codes "CLOSED" ∷ decimal closed ∷ []) (refl, (decimal_has_no_end closed (omega arith), tt))

-- a text of lines has these lines
pub lines_of_lines : (ls : List Line) → AllByRecursion IsLine ls → lines (flat_map line_text ls) ≡ map line_text ls
lines_of_lines [] h = lines_of_nothing
lines_of_lines (l ∷ ls) h =
    whole_line_first (line_text l) (flat_map line_text ls) (line_text_whole l h.0) ∙ ap (λ (more : List (List ℕ)). line_text l ∷ more) (lines_of_lines ls h.1)
