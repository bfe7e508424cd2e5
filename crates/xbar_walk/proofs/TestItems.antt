-- a test adds no record, so its item is only the test
use Rattle.std.proofs.Common.{◌≡◌, ℕ, List, [], ◌++◌, append-nil, drop, length, inl, inr, refl, sym, ◌∙◌, ap, arith, slice_index}
use Rattle.{std.proofs.lemmas.List.drop_all, xbar_plan.specs.Tables.Tables, xbar_office.specs.declared.reply.Record.Record}
use Rattle.xbar_jobs.specs.{Attempt.next_step, OnWords.{step_answer, step_word}, declared.program.Step.Step}
use Rattle.xbar_moves.{specs.{AtWork.next_step_at, Exchange.{Exchange, at_marker}, Moves.added_record, declared.event.Event.Event}, proofs.StepCases.step_cases}
use Rattle.xbar_walk.specs.{Items.{item_lines, step_item}, Rows.test_line, Walks.{added_by, next_of, observation_of}, declared.detail.Detail.TheVariants.Each}
use Rattle.xbar_step_text.specs.{Lines.{marker_line, step_lines}, Words.step_words}
use Rattle.xbar_jobs.specs.declared.program.Step.TheVariants as step

no_more : (records : List Record) → drop (length records) records ≡ []
no_more records = drop_all (length records) records (omega arith)

test_adds_none : (plan : Tables) (k : ℕ) (e : Exchange) (word : ℕ) → next_of e k ≡ step.Test word → added_by plan k e ≡ []
test_adds_none plan k e word tests = elim (step_cases plan e k) [
  | inl same ↦ ap (λ (x : Exchange). drop (length e.records) x.records) same ∙ no_more e.records
  | inr made ↦
      let next : next_step made.attempt ≡ step.Test word =
      sym (ap (at_marker step.Finished (λ m. next_step_at m.work)) made.at.there ∙ ap next_step_at made.at.work) ∙ tests in
      ap (λ (x : Exchange). drop (length e.records) x.records) made.is
      ∙ ap (λ (s : Step). drop (length e.records) (e.records ++ added_record k made.number made.attempt (step_answer k s (slice_index e.words (step_word s)))))
      next
      ∙ ap (drop (length e.records)) (append-nil e.records) ∙ no_more e.records
]

lines_of : (number k found : ℕ) (event : Event) (next made : Step) (records : List Record) → ((word : ℕ) → made ≡ step.Test word → records ≡ [])
    → item_lines (step_item Each number k (record { step = made; found = found; event = event; next = next }) records)
    ≡ step_lines number k (record { step = made; found = found; event = event; next = next }) records
unfolding item_lines step_item step_lines test_line step_words
lines_of number k found event next (step.Test word) records none =
    sym (ap (λ (rs : List Record). step_lines number k (record { step = step.Test word; found = found; event = event; next = next }) rs) (none word refl)
    ∙ append-nil (marker_line number k (step_words (record { step = step.Test word; found = found; event = event; next = next }) [])))
lines_of number k found event next _ records none = refl

pub step_item_lines : (plan : Tables) (k : ℕ) (e : Exchange) (number : ℕ)
    → item_lines (step_item Each number k (observation_of plan k e) (added_by plan k e)) ≡ step_lines number k (observation_of plan k e) (added_by plan k e)
step_item_lines plan k e number =
    let observed = observation_of plan k e in
    lines_of number k observed.found observed.event observed.next observed.step (added_by plan k e) (test_adds_none plan k e)
