use Rattle.std.proofs.Common.{ap}
use Rattle.desk_attempts.{specs.Speculation.Speculation, proofs.SnapshotWalks.settled}
use Rattle.desk_attempts.proofs.answering.drop_predictions_to_apply.Goals as goal

pub returns-clause-valid : goal.returns-clause-valid
returns-clause-valid g c =
    (settled g.S.Lock.PartialEq.eq g.S.Scripts.reply_of g.S.Scripts.effects_of (g.S.Scripts.system c.args.setting.now)
    (g.S.Scripts.ResumePointIsValid c.args.setting.now) g.row.READINGS g.row.HELD c.requires.may.scripts c.args.program.now c.args.prediction
    c.drop_predictions.new.program.predicted.point c.drop_predictions.new.program.predicted c.requires.prediction c.requires.may.valid
    (c.drop_predictions.ensures.valid_point c.args.setting.now) (ap (λ (p : Speculation _ _ _ _). p.predicted) c.drop_predictions.ensures.settled)).1

pub returns-clause-now : goal.returns-clause-now
returns-clause-now g c =
    (settled g.S.Lock.PartialEq.eq g.S.Scripts.reply_of g.S.Scripts.effects_of (g.S.Scripts.system c.args.setting.now)
    (g.S.Scripts.ResumePointIsValid c.args.setting.now) g.row.READINGS g.row.HELD c.requires.may.scripts c.args.program.now c.args.prediction
    c.drop_predictions.new.program.predicted.point c.drop_predictions.new.program.predicted c.requires.prediction c.requires.may.valid
    (c.drop_predictions.ensures.valid_point c.args.setting.now) (ap (λ (p : Speculation _ _ _ _). p.predicted) c.drop_predictions.ensures.settled)).0
