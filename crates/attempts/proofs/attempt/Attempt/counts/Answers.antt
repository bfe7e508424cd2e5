use Rattle.std.proofs.Common.{ap, length, ◌∙◌}
use Rattle.attempts.specs.Validity.{AttemptView}
use Rattle.attempts.proofs.attempt.Attempt.counts.Goals as goal

pub returns-clause-readings : goal.returns-clause-readings
returns-clause-readings g c = ap (λ x. x.0) c.counts.ensures ∙ ap (λ (p : AttemptView _ _ _ _). length p.readings) c.self.view_is

pub returns-clause-locks : goal.returns-clause-locks
returns-clause-locks g c = ap (λ x. x.1) c.counts.ensures ∙ ap (λ (p : AttemptView _ _ _ _). length p.held) c.self.view_is
