use Rattle.std.proofs.Common.{refl}
use Rattle.desk_attempts.{specs.Speculation.predictions, proofs.Confirming.tests_guesses}
use Rattle.desk_attempts.proofs.jobs.AttemptsJobs.predictions.Goals as goal

pub returns-clause-tests : goal.returns-clause-tests
returns-clause-tests g c =
    tests_guesses g.S.Lock.PartialEq.eq g.S.Scripts.reply_of g.S.Scripts.effects_of (g.S.Scripts.system c.args._setting.now)
    (g.S.Scripts.ResumePointIsValid c.args._setting.now) g.row.READINGS g.row.HELD (g.met.S.InRoom.are_scripts c.args._setting.now c.requires.valid.0) (predictions c.args.program.now)
    c.args.program.now c.predictions.ensures.words c.requires.valid.1 refl
