use Rattle.desk_attempts.proofs.SnapshotWalks.{plainly}
use Rattle.desk_attempts.proofs.predicting.valid_without_predictions.Goals as goal

pub returns-clause-valid : goal.returns-clause-valid
returns-clause-valid g c =
    plainly g.S.Lock.PartialEq.eq g.S.Scripts.reply_of g.S.Scripts.effects_of (g.S.Scripts.system c.args._setting.now)
    (g.S.Scripts.ResumePointIsValid c.args._setting.now) g.row.READINGS g.row.HELD c.requires.may.scripts c.args._program.now c.requires.none
    c.requires.may.valid
