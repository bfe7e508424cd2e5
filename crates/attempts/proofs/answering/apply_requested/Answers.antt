use Rattle.attempts.proofs.Applied.{asked, not_asked}
use Rattle.attempts.proofs.answering.apply_requested.Goals as goal

pub returns-in-Requests : goal.returns-in-Requests
returns-in-Requests g c =
    asked g.S.Lock.PartialEq.eq g.S.Scripts.reply_of g.S.Scripts.effects_of (g.S.Scripts.system c.args.setting.now)
    (g.S.Scripts.ResumePointIsValid c.args.setting.now) _ c.args.attempt.now c.attempt.view_is c.requires.valid.point c.in-Requests.lock c.args.word
    c.in-Requests.is

pub returns-in_default : goal.returns-in_default
returns-in_default g c =
    not_asked g.S.Lock.PartialEq.eq g.S.Scripts.reply_of g.S.Scripts.effects_of (g.S.Scripts.system c.args.setting.now)
    (g.S.Scripts.ResumePointIsValid c.args.setting.now) _ c.args.attempt.now c.attempt.view_is c.requires.valid.point c.args.word c.in_default.not-Requests
