use Rattle.attempts.proofs.Following.{job_here, knows_here, wants_here}
use Rattle.attempts.proofs.answering.walk_inputs.Goals as goal

pub returns-clause-may : goal.returns-clause-may
returns-clause-may g c = record {
  setting = c.requires.setting;
  right =
      job_here g.S.Lock.PartialEq.eq g.S.Scripts.reply_of g.S.Scripts.effects_of (g.S.Scripts.system c.args._setting.now)
      (g.S.Scripts.ResumePointIsValid c.args._setting.now) g.row.READINGS g.row.HELD _ c.args.attempt.now c.attempt.view_is c.requires.valid c.args._word
      c.requires.tests;
  valid_point =
      knows_here g.S.Lock.PartialEq.eq g.S.Scripts.reply_of g.S.Scripts.effects_of (g.S.Scripts.system c.args._setting.now)
      (g.S.Scripts.ResumePointIsValid c.args._setting.now) g.row.READINGS g.row.HELD _ c.args.attempt.now c.attempt.view_is c.requires.valid c.args._word
      c.requires.tests;
  wants =
      wants_here g.S.Lock.PartialEq.eq g.S.Scripts.reply_of g.S.Scripts.effects_of (g.S.Scripts.system c.args._setting.now)
      (g.S.Scripts.ResumePointIsValid c.args._setting.now) g.row.READINGS g.row.HELD _ c.args.attempt.now c.attempt.view_is c.requires.valid c.args._word
      c.requires.tests;
}
