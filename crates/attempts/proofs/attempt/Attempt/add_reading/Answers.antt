use Rattle.std.proofs.Common.{[], ◌∷◌, ◌++◌, refl}
use Rattle.attempts.{specs.Validity.AttemptView, proofs.Inside.with_seen}
use Rattle.attempts.proofs.attempt.Attempt.add_reading.Goals as goal

pub returns : goal.returns
returns g c =
    with_seen _ c.args.self.now _ _ (λ (p : AttemptView _ _ _ _). record p { readings = p.readings ++ c.args.reading ∷ [] }) c.self.view_is
    c.add_reading.ensures refl
