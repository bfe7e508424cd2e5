use Rattle.std.proofs.Common.{◌<◌, ◌≤◌, ◌^◌, ℕ, List, length, arith, ap, subst, sym, ◌∙◌}
use Rattle.{turns.specs.{Attempt.change, declared.{answer.Answer.TheVariants.Value, reading.Reading.Reading}}, desk_attempts.specs.Speculation.now_of}
use Rattle.{desk_attempts.proofs.{SpeculationNow.first_of, Confirmed.confirmed, SnapshotWalks.settles_on}, attempts.specs.SystemWith.system_with}
use Rattle.desk_attempts.proofs.answering.apply_to_prediction.Goals as goal

pub returns-then-found-prediction-clause-change : goal.returns-then-found-prediction-clause-change
returns-then-found-prediction-clause-change g c =
    (confirmed g.S.Lock.PartialEq.eq g.S.Scripts.reply_of g.S.Scripts.effects_of (g.S.Scripts.system c.args.setting.now)
    (g.S.Scripts.ResumePointIsValid c.args.setting.now) g.row.READINGS g.row.HELD c.requires.may.scripts c.args.program.now c.confirm.new.self c.args.prediction
    (first_of _ c.args.prediction c.requires.prediction).0 (subst (λ (v : ℕ). v < 2 ^ 64) c.if-found-prediction.true c.ranges.found.fits) c.requires.may.valid
    (first_of _ c.args.prediction c.requires.prediction).1 c.confirm.ensures.predicted c.confirm.ensures.validated).0
    ∙ ap (λ (v : ℕ). change (system_with g.S.Lock.PartialEq.eq g.S.Scripts.reply_of g.S.Scripts.effects_of (g.S.Scripts.system c.args.setting.now))
    (now_of g.S.Scripts.reply_of g.S.Scripts.effects_of c.args.program.now) (Value v)) (sym c.if-found-prediction.true)

pub returns-then-found-prediction-clause-valid : goal.returns-then-found-prediction-clause-valid
returns-then-found-prediction-clause-valid g c =
    (confirmed g.S.Lock.PartialEq.eq g.S.Scripts.reply_of g.S.Scripts.effects_of (g.S.Scripts.system c.args.setting.now)
    (g.S.Scripts.ResumePointIsValid c.args.setting.now) g.row.READINGS g.row.HELD c.requires.may.scripts c.args.program.now c.confirm.new.self c.args.prediction
    (first_of _ c.args.prediction c.requires.prediction).0 (subst (λ (v : ℕ). v < 2 ^ 64) c.if-found-prediction.true c.ranges.found.fits) c.requires.may.valid
    (first_of _ c.args.prediction c.requires.prediction).1 c.confirm.ensures.predicted c.confirm.ensures.validated).1

pub returns-else-found-prediction-clause-change : goal.returns-else-found-prediction-clause-change
returns-else-found-prediction-clause-change g c =
    (settles_on g.S.Lock.PartialEq.eq g.S.Scripts.reply_of g.S.Scripts.effects_of (g.S.Scripts.system c.args.setting.now)
    (g.S.Scripts.ResumePointIsValid c.args.setting.now) g.row.READINGS g.row.HELD c.requires.may.scripts c.args.program.now
    c.drop_predictions_to_apply.new.program c.apply_plain.new.program (Value c.args.found) c.drop_predictions_to_apply.ensures.now
    c.drop_predictions_to_apply.ensures.validated c.apply_plain.ensures.validated c.apply_plain.ensures.change c.apply_plain.ensures.valid).0

pub returns-else-found-prediction-clause-valid : goal.returns-else-found-prediction-clause-valid
returns-else-found-prediction-clause-valid g c =
    (settles_on g.S.Lock.PartialEq.eq g.S.Scripts.reply_of g.S.Scripts.effects_of (g.S.Scripts.system c.args.setting.now)
    (g.S.Scripts.ResumePointIsValid c.args.setting.now) g.row.READINGS g.row.HELD c.requires.may.scripts c.args.program.now
    c.drop_predictions_to_apply.new.program c.apply_plain.new.program (Value c.args.found) c.drop_predictions_to_apply.ensures.now
    c.drop_predictions_to_apply.ensures.validated c.apply_plain.ensures.validated c.apply_plain.ensures.change c.apply_plain.ensures.valid).1

pub confirm-requires : goal.confirm-requires
confirm-requires g c = (search, subst (λ (l : List (Reading ℕ)). 1 ≤ length l) (sym (first_of _ c.args.prediction c.requires.prediction).1) (omega arith))
