use Rattle.std.proofs.Common.{ap, ◌∙◌, List, ℕ}
use Rattle.{xbar_step_text.specs.Observed.found_by, xbar_walk.proofs.ToldSteps.{next_is, step_within, told_is}}
use Rattle.xbar_walk.proofs.walk.make_step.Goals as goal

pub next_step-next-requires : goal.next_step-next-requires
next_step-next-requires c = step_within c.args.exchange.now c.step-event.new.self c.args.marker c.requires c.step-event.ensures.step

pub returns-clause-observed : goal.returns-clause-observed
returns-clause-observed c =
    let o = c.args.exchange.now in
    let after = c.step-event.new.self in
    let k = c.args.marker in
    let within = step_within o after k c.requires c.step-event.ensures.step in
    c.new.ensures
    ∙ told_is o after k _ _ _ _ (next_is o.exchange k c.requires _ c.next_step-step.ensures)
    (c.found_by-found.ensures ∙ ap (λ (words : List ℕ). found_by words c.next_step-step.result) c.words.ensures.words)
    c.step-event.ensures.event c.step-event.ensures.step (next_is after.exchange k within _ c.next_step-next.ensures)
