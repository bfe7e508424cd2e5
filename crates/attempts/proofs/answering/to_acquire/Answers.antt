use Rattle.attempts.proofs.Onward.{room_to_acquire, walks_acquired}
use Rattle.attempts.proofs.answering.to_acquire.Goals as goal

pub returns-clause-room : goal.returns-clause-room
returns-clause-room g c =
    room_to_acquire g.S.Lock.PartialEq.eq g.S.Scripts.reply_of g.S.Scripts.effects_of (g.S.Scripts.system c.args.setting.now)
    (g.S.Scripts.ResumePointIsValid c.args.setting.now) _ _ c.requires.scripts c.args.attempt.now c.lock_to_acquire.result c.lock_to_acquire.ensures
    c.requires.valid

pub returns-clause-walk : goal.returns-clause-walk
returns-clause-walk g c =
    walks_acquired g.S.Lock.PartialEq.eq g.S.Scripts.reply_of g.S.Scripts.effects_of (g.S.Scripts.system c.args.setting.now)
    (g.S.Scripts.ResumePointIsValid c.args.setting.now) _ _ c.requires.scripts c.args.attempt.now c.lock_to_acquire.result c.lock_to_acquire.ensures
    c.requires.valid
