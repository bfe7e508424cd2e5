use Rattle.attempts.proofs.Applied.{not_turned, turned}
use Rattle.attempts.proofs.answering.apply_turn.Goals as goal

pub returns-in-Turns : goal.returns-in-Turns
returns-in-Turns g c =
    turned g.S.Lock.PartialEq.eq g.S.Scripts.reply_of g.S.Scripts.effects_of (g.S.Scripts.system c.args.setting.now)
    (g.S.Scripts.ResumePointIsValid c.args.setting.now) _ c.args.attempt.now c.attempt.view_is c.requires.valid.point c.args.number c.in-Turns.is

pub returns-in_default : goal.returns-in_default
returns-in_default g c =
    not_turned g.S.Lock.PartialEq.eq g.S.Scripts.reply_of g.S.Scripts.effects_of (g.S.Scripts.system c.args.setting.now)
    (g.S.Scripts.ResumePointIsValid c.args.setting.now) _ c.args.attempt.now c.attempt.view_is c.requires.valid.point c.args.number c.in_default.not-Turns
