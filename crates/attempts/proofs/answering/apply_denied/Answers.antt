use Rattle.attempts.proofs.Applied.{stays_held, stays_preferred}
use Rattle.attempts.proofs.answering.apply_denied.Goals as goal

pub deny-requires : goal.deny-requires
deny-requires g c = search

pub returns-in_default : goal.returns-in_default
returns-in_default g c = record {
  held =
      stays_held g.S.Lock.PartialEq.eq g.S.Scripts.reply_of g.S.Scripts.effects_of (g.S.Scripts.system c.args.setting.now)
      (g.S.Scripts.ResumePointIsValid c.args.setting.now) _ c.args.attempt.now c.attempt.view_is c.requires.valid.point c.in_default.not-Requests
      c.in_default.not-Seizes;
  preferred =
      stays_preferred g.S.Lock.PartialEq.eq g.S.Scripts.reply_of g.S.Scripts.effects_of (g.S.Scripts.system c.args.setting.now)
      (g.S.Scripts.ResumePointIsValid c.args.setting.now) _ c.args.attempt.now c.attempt.view_is c.requires.valid.point c.in_default.not-Requests
      c.in_default.not-Seizes;
}
