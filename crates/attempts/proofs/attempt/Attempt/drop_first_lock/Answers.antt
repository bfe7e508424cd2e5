use Rattle.std.proofs.Common.{refl}
use Rattle.{turns.specs.Attempt.rest_of, attempts.{specs.Validity.AttemptView, proofs.Inside.with_seen}}
use Rattle.attempts.proofs.attempt.Attempt.drop_first_lock.Goals as goal

pub returns : goal.returns
returns g c = with_seen _ c.args.self.now _ _ (λ (p : AttemptView _ _ _ _). record p { held = rest_of p.held }) c.self.view_is c.drop_first_lock.ensures refl
