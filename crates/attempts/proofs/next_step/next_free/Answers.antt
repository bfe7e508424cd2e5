use Rattle.std.proofs.Common.{ap, ◌∙◌}
use Rattle.{turns.specs.Attempt.free_act, attempts.{specs.Validity.AttemptView, proofs.Inside.{frees_first, frees_none}}}
use Rattle.attempts.proofs.next_step.next_free.Goals as goal

pub returns-in-Some : goal.returns-in-Some
returns-in-Some g c =
    frees_first c.held.result.now c.in-Some.lock.now c.in-Some.ensures.value
    ∙ ap free_act (c.held.ensures ∙ ap (λ (p : AttemptView _ _ _ _). p.held) c.attempt.view_is)

pub returns-in-None : goal.returns-in-None
returns-in-None g c =
    frees_none c.held.result.now c.in-None.ensures.value ∙ ap free_act (c.held.ensures ∙ ap (λ (p : AttemptView _ _ _ _). p.held) c.attempt.view_is)
