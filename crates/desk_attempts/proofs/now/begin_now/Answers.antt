use Rattle.desk_attempts.proofs.SnapshotWalks.{plain}
use Rattle.desk_attempts.proofs.now.begin_now.Goals as goal

pub returns-clause-begins : goal.returns-clause-begins
returns-clause-begins g c setting = c.begin.ensures.begins setting

pub returns-clause-valid : goal.returns-clause-valid
returns-clause-valid g c setting are right =
    plain g.S.Lock.PartialEq.eq g.S.Scripts.reply_of g.S.Scripts.effects_of (g.S.Scripts.system setting) (g.S.Scripts.ResumePointIsValid setting) g.row.READINGS
    g.row.HELD are c.begin.result (c.begin.ensures.valid setting are right)
