use Rattle.std.proofs.Common.{ap, subst}
use Rattle.{desk_attempts.specs.Speculation.{Speculation, HasPredicted}, attempts.specs.Validity.AttemptView}
use Rattle.desk_attempts.proofs.predicting.predict.Goals as goal

pub returns : goal.returns
returns g c =
    subst (λ (p : AttemptView _ _ _ _). HasPredicted g.S.Lock.PartialEq.eq g.S.Scripts.reply_of g.S.Scripts.effects_of (g.S.Scripts.system c.args.setting.now)
    (g.S.Scripts.ResumePointIsValid c.args.setting.now) p
    (record { predicted = c.predict_by_walk-validated.new.predicted; validated = c.predict_by_walk-validated.result }))
    (ap (λ (p : Speculation _ _ _ _). p.predicted) c.program.view_is) c.predict_by_walk-validated.ensures
