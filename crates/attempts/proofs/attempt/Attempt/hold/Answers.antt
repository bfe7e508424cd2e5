use Rattle.std.proofs.Common.{[], ◌∷◌, ◌++◌, refl}
use Rattle.attempts.{specs.Validity.AttemptView, proofs.Inside.with_seen}
use Rattle.attempts.proofs.attempt.Attempt.hold.Goals as goal

pub returns : goal.returns
returns g c = with_seen _ c.args.self.now _ _ (λ (p : AttemptView _ _ _ _). record p { held = p.held ++ c.args.lock ∷ [] }) c.self.view_is c.hold.ensures refl
