use Rattle.std.specs.Prelude.{ℕ, ◌+◌, ◌%◌, ◌^◌, nat_lt, List, [], ◌∷◌, ◌++◌, codes, decimal, flat_map, if◌then◌else◌}
use Rattle.std.specs.List.{concat}
use Rattle.xbar_equip.specs.Link.{link_text}
use Rattle.xbar_office.specs.declared.job.Job.{Job}
use Rattle.xbar_office.specs.declared.reply.Card.{Card}
use Rattle.xbar_office.specs.declared.reply.Record.{Record}
use Rattle.xbar_step_text.specs.Words.{job_words, step_words}
use Rattle.xbar_step_text.specs.declared.observation.Observation.{Observation}

-- a number, right-aligned in four columns, or wider if it needs more
unfoldable pub in_four : ℕ → List ℕ
in_four number =
    if nat_lt number 10 then codes "   " ++ decimal number
    else (if nat_lt number 100 then codes "  " ++ decimal number
    else (if nat_lt number 1000 then codes " " ++ decimal number else decimal number))

-- the next step's number; steps are counted modulo 2^64, as turns are
abbrev pub one_more : ℕ → ℕ
one_more number = (number + 1) % 2 ^ 64

-- the line of a marker's step: its number, the marker, and the words that describe it
unfoldable pub marker_line : ℕ → ℕ → List ℕ → List ℕ
marker_line number marker words =
    concat (in_four number ∷ codes "  marker " ∷ decimal marker ∷ codes "  " ∷ words ∷ codes "\n" ∷ [])

-- the line of a job's assignment to a marker: it is no step, so it has no number
unfoldable pub assignment_line : ℕ → ℕ → Job → List ℕ
assignment_line marker job_no job =
    concat (codes "      marker " ∷ decimal marker ∷ codes "  is given job " ∷ decimal job_no
    ∷ codes ": " ∷ job_words job ∷ codes "\n" ∷ [])

-- the line of a trouble card, below the turn that gave it
unfoldable pub card_line : Card → List ℕ
card_line card =
    concat (codes "                  trouble card: trial " ∷ decimal card.trial ∷ codes ", "
    ∷ link_text card.link ∷ codes " is faulty\n" ∷ [])

-- the lines of all cards of these records
abbrev pub card_lines : List Record → List ℕ
card_lines records = flat_map (λ r. flat_map card_line r.reply.cards) records

-- the line of a marker's step, then the lines of the cards of the records that it added
unfoldable pub step_lines : ℕ → ℕ → Observation → List Record → List ℕ
step_lines number marker observed records =
    marker_line number marker (step_words observed records) ++ card_lines records

-- the line that is written once, when no row is left
unfoldable pub settling_line : List ℕ
settling_line = codes "      the rows are done, and the office settles\n"
