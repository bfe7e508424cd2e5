use Rattle.desk_attempts.proofs.Confirming.{confirms}
use Rattle.desk_attempts.proofs.jobs.AttemptsJobs.confirm.Goals as goal

pub returns-clause-confirmed : goal.returns-clause-confirmed
returns-clause-confirmed g c =
    (confirms g.S.Lock.PartialEq.eq g.S.Scripts.reply_of g.S.Scripts.effects_of (g.S.Scripts.system c.args._setting.now)
    (g.S.Scripts.ResumePointIsValid c.args._setting.now) g.row.READINGS g.row.HELD (g.met.S.InRoom.are_scripts c.args._setting.now c.requires.valid.0) c.args.made c.args.program.now c.confirm.new.self
    c.predictions-predictions.ensures.words c.requires.valid.1 c.requires.made c.confirm.ensures.predicted c.confirm.ensures.validated).now_is

pub returns-clause-valid : goal.returns-clause-valid
returns-clause-valid g c = (
  c.requires.valid.0,
  (confirms g.S.Lock.PartialEq.eq g.S.Scripts.reply_of g.S.Scripts.effects_of (g.S.Scripts.system c.args._setting.now)
      (g.S.Scripts.ResumePointIsValid c.args._setting.now) g.row.READINGS g.row.HELD (g.met.S.InRoom.are_scripts c.args._setting.now c.requires.valid.0) c.args.made c.args.program.now
      c.confirm.new.self c.predictions-predictions.ensures.words c.requires.valid.1 c.requires.made c.confirm.ensures.predicted
      c.confirm.ensures.validated).valid,
)

pub predictions-predictions-requires : goal.predictions-predictions-requires
predictions-predictions-requires g c = search

pub confirm-requires : goal.confirm-requires
confirm-requires g c = (search, c.requires.made)
