use Rattle.std.proofs.Common.{ap, ◌∙◌}
use Rattle.{turns.specs.declared.phase.Phase.TheVariants.Requests, attempts.specs.{Counting.is_at_beginning, Validity.AttemptView}}
use Rattle.attempts.proofs.Inside.{has_begun, in_phase}
use Rattle.attempts.proofs.attempt.Attempt.is_fresh.Goals as goal

pub returns-in-Requests : goal.returns-in-Requests
returns-in-Requests g c =
    c.holds_none.ensures ∙ in_phase (λ p phase. is_at_beginning phase p.held) _ c.args.self.now (Requests c.in-Requests.field-0) c.self.view_is c.in-Requests.is

pub returns-in_default : goal.returns-in_default
returns-in_default g c = has_begun _ _ c.in_default.not-Requests ∙ ap (λ (p : AttemptView _ _ _ _). is_at_beginning p.phase p.held) c.self.view_is
