use Rattle.desk_attempts.proofs.SnapshotWalks.{can_again}
use Rattle.desk_attempts.proofs.predicting.roll_back.Goals as goal

pub truncate-requires : goal.truncate-requires
truncate-requires g c = search

pub returns-clause-walk : goal.returns-clause-walk
returns-clause-walk g c =
    can_again g.S.Lock.PartialEq.eq g.S.Scripts.reply_of g.S.Scripts.effects_of (g.S.Scripts.system c.args._setting.now)
    (g.S.Scripts.ResumePointIsValid c.args._setting.now) c.args.predicted.now c.truncate.new.self c.args.readings c.args.locks _ _ c.requires c.job.ensures
    (c.start-start.ensures c.args._setting.now) c.truncate.ensures
