use Rattle.desk_attempts.proofs.Confirming.{closes_on}
use Rattle.desk_attempts.proofs.jobs.AttemptsJobs.apply_past_turn.Goals as goal

pub returns-clause-closes : goal.returns-clause-closes
returns-clause-closes g c =
    (closes_on g.S.Lock.PartialEq.eq g.S.Scripts.reply_of g.S.Scripts.effects_of (g.S.Scripts.system c.args._setting.now)
    (g.S.Scripts.ResumePointIsValid c.args._setting.now) g.row.READINGS g.row.HELD (g.met.S.InRoom.are_scripts c.args._setting.now c.requires.valid.0) c.args.program.now
    c.apply_past_turn_now.new.program c.requires.turned.0 c.requires.valid.1 c.requires.turned.1 c.apply_past_turn_now.ensures.operates
    c.apply_past_turn_now.ensures.phase c.apply_past_turn_now.ensures.validated).now_is

pub returns-clause-valid : goal.returns-clause-valid
returns-clause-valid g c = (
  c.requires.valid.0,
  (closes_on g.S.Lock.PartialEq.eq g.S.Scripts.reply_of g.S.Scripts.effects_of (g.S.Scripts.system c.args._setting.now)
      (g.S.Scripts.ResumePointIsValid c.args._setting.now) g.row.READINGS g.row.HELD (g.met.S.InRoom.are_scripts c.args._setting.now c.requires.valid.0) c.args.program.now
      c.apply_past_turn_now.new.program c.requires.turned.0 c.requires.valid.1 c.requires.turned.1 c.apply_past_turn_now.ensures.operates
      c.apply_past_turn_now.ensures.phase c.apply_past_turn_now.ensures.validated).valid,
)

pub apply_past_turn_now-requires : goal.apply_past_turn_now-requires
apply_past_turn_now-requires g c = search
