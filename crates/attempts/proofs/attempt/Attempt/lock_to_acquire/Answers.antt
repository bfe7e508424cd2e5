use Rattle.std.proofs.Common.{ap, ◌∙◌}
use Rattle.{turns.specs.{Attempt.asked_in, declared.phase.Phase.TheVariants.{Requests, Seizes}}, attempts.specs.Validity.AttemptView}
use Rattle.attempts.proofs.Inside.{asks_none, in_phase}
use Rattle.attempts.proofs.attempt.Attempt.lock_to_acquire.Goals as goal

pub returns-in-Requests : goal.returns-in-Requests
returns-in-Requests g c = in_phase (λ p phase. asked_in phase) _ c.args.self.now (Requests c.in-Requests.lock) c.self.view_is c.in-Requests.is

pub returns-in-Seizes : goal.returns-in-Seizes
returns-in-Seizes g c = in_phase (λ p phase. asked_in phase) _ c.args.self.now (Seizes c.in-Seizes.lock c.in-Seizes.field-1) c.self.view_is c.in-Seizes.is

pub returns-in_default : goal.returns-in_default
returns-in_default g c = asks_none _ c.in_default.not-Requests c.in_default.not-Seizes ∙ ap (λ (p : AttemptView _ _ _ _). asked_in p.phase) c.self.view_is
