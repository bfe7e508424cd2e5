use Rattle.attempts.proofs.Applied.{again, not_again}
use Rattle.attempts.proofs.answering.apply_changed.Goals as goal

pub returns-in-Seizes : goal.returns-in-Seizes
returns-in-Seizes g c =
    again g.S.Lock.PartialEq.eq g.S.Scripts.reply_of g.S.Scripts.effects_of (g.S.Scripts.system c.args.setting.now)
    (g.S.Scripts.ResumePointIsValid c.args.setting.now) _ c.args.attempt.now c.attempt.view_is c.requires.valid.point c.in-Seizes.lock c.in-Seizes.field-1
    c.args.word c.in-Seizes.is

pub returns-in_default : goal.returns-in_default
returns-in_default g c =
    not_again g.S.Lock.PartialEq.eq g.S.Scripts.reply_of g.S.Scripts.effects_of (g.S.Scripts.system c.args.setting.now)
    (g.S.Scripts.ResumePointIsValid c.args.setting.now) _ c.args.attempt.now c.attempt.view_is c.requires.valid.point c.args.word c.in_default.not-Seizes
