-- what a desk has seen grows by its steps
use Rattle.std.proofs.Common.{◌≡◌, ℕ, zero, suc, List, [], ◌++◌, append-nil, append_assoc, inl, inr, sym, ◌∙◌, ap}
use Rattle.{desks.specs.Parts.Begins, xbar_office.specs.declared.reply.Record.Record}
use Rattle.xbar_moves.specs.{AtWork.answer_to_step, Exchange.Exchange, Moves.{added_record, after_step}, declared.event.Event.Event}
use Rattle.{xbar_moves.proofs.StepCases.step_cases, xbar_fabric.specs.{Advances.{MarkerHasMade, MarkerHasRun, MarkerHasStepped}, Views.DeskView}}

-- what begins by these begins by fewer
pub begins_both : (one two three : List Record) → Begins one two → Begins two three → Begins one three
begins_both one two three (more, is) (later, then) = (more ++ later, then ∙ ap (λ (l : List Record). l ++ later) is ∙ append_assoc one more later)

pub begins_same : (before after : DeskView) → after ≡ before → Begins before.seen after.seen
begins_same before after same = ([], ap (λ (d : DeskView). d.seen) same ∙ sym (append-nil before.seen))

-- an office's records grow by a step
records_grow : (before after : DeskView) (event : Event) (step : MarkerHasStepped before after event)
    → Begins step.office.records (after_step before.plan before.marker step.office).records
records_grow before after event step = elim (step_cases before.plan step.office before.marker) [
  | inl same ↦ ([], ap (λ (x : Exchange). x.records) same ∙ sym (append-nil step.office.records))
  | inr
      made ↦ (
        added_record before.marker made.number made.attempt (answer_to_step before.marker step.office.words made.attempt),
        ap (λ (x : Exchange). x.records) made.is,
      )
]

-- and so does what a desk has seen
step_begins : (before after : DeskView) (event : Event) → MarkerHasStepped before after event → Begins before.seen after.seen
step_begins before after event step =
    let all =
    begins_both before.seen step.office.records (after_step before.plan before.marker step.office).records step.agrees.begins
    (records_grow before after event step) in
    (all.0, step.seen_is ∙ all.1)

-- by many steps too
pub steps_begin : (count : ℕ) (before after : DeskView) → MarkerHasMade count before after → Begins before.seen after.seen
steps_begin zero before after same = begins_same before after same
steps_begin (suc count) before after (between, event, made, asks, step) =
    begins_both before.seen between.seen after.seen (steps_begin count before between made) (step_begins between after event step)

-- and by those of a run
pub run_begins : (count : ℕ) (before after : DeskView) → MarkerHasRun count before after → Begins before.seen after.seen
run_begins zero before after same = begins_same before after same
run_begins (suc count) before after (between, event, run, busy, asks, advanced) =
    begins_both before.seen between.seen after.seen (run_begins count before between run) advanced.grown
