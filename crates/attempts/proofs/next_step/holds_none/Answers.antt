use Rattle.std.proofs.Common.{ap, ◌∙◌}
use Rattle.{turns.specs.{Attempt.free_act, Runs.is_finished}, attempts.{specs.Validity.AttemptView, proofs.Inside.none_to_free}}
use Rattle.attempts.proofs.next_step.holds_none.Goals as goal

pub returns : goal.returns
returns g c =
    c.holds_none.ensures ∙ none_to_free _ c.attempt.inside.seen.seen.held
    ∙ ap (λ held. is_finished (free_act held)) (ap (λ (p : AttemptView _ _ _ _). p.held) c.attempt.view_is)
