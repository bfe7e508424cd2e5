use Rattle.desk_attempts.proofs.SnapshotWalks.{settles_on}
use Rattle.desk_attempts.proofs.answering.apply_without_prediction.Goals as goal

pub returns-in_default : goal.returns-in_default
returns-in_default g c =
    let told =
    settles_on g.S.Lock.PartialEq.eq g.S.Scripts.reply_of g.S.Scripts.effects_of (g.S.Scripts.system c.args.setting.now)
    (g.S.Scripts.ResumePointIsValid c.args.setting.now) g.row.READINGS g.row.HELD c.requires.may.scripts c.args.program.now c.expect_no_predictions.new.program
    c.apply_plain.new.program c.args.answer c.expect_no_predictions.ensures.now c.expect_no_predictions.ensures.validated c.apply_plain.ensures.validated
    c.apply_plain.ensures.change c.apply_plain.ensures.valid in
    record { change = told.0; valid = told.1 }
