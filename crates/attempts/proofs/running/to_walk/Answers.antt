use Rattle.attempts.proofs.WalkRuns.{can_walk_next}
use Rattle.attempts.proofs.running.to_walk.Goals as goal

pub returns-clause-walk : goal.returns-clause-walk
returns-clause-walk g c =
    can_walk_next g.S.Lock.PartialEq.eq g.S.Scripts.reply_of g.S.Scripts.effects_of (g.S.Scripts.system c.args._setting.now)
    (g.S.Scripts.ResumePointIsValid c.args._setting.now) g.row.READINGS g.row.HELD c.args.attempt.now c.requires.may.valid c.wants.result c.wants.ensures.some

pub wants-requires : goal.wants-requires
wants-requires g c = search
