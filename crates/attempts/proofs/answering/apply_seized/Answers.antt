use Rattle.attempts.proofs.Applied.{not_seized, seized}
use Rattle.attempts.proofs.answering.apply_seized.Goals as goal

pub returns-in-Some : goal.returns-in-Some
returns-in-Some g c =
    seized g.S.Lock.PartialEq.eq g.S.Scripts.reply_of g.S.Scripts.effects_of (g.S.Scripts.system c.args.setting.now)
    (g.S.Scripts.ResumePointIsValid c.args.setting.now) c.args.attempt.now c.hold.new.self c.walk_on.new.attempt c.in-Some.lock c.in-Some.ensures.lock
    c.hold.ensures c.walk_on.ensures

pub returns-in_default : goal.returns-in_default
returns-in_default g c =
    not_seized g.S.Lock.PartialEq.eq g.S.Scripts.reply_of g.S.Scripts.effects_of (g.S.Scripts.system c.args.setting.now)
    (g.S.Scripts.ResumePointIsValid c.args.setting.now) c.args.attempt.now c.in_default.ensures.lock c.requires.valid.point
