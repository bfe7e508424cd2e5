use Rattle.std.proofs.Common.{◌∙◌}
use Rattle.{turns.specs.declared.answer.Answer.TheVariants.Seized, desk_attempts.proofs.SnapshotWalks.{seizes, told_far}, attempts.proofs.Applied.not_seized}
use Rattle.desk_attempts.proofs.predicting.apply_seized.Goals as goal

pub has_decided-requires : goal.has_decided-requires
has_decided-requires g c = search

pub returns-then-has_decided-clause-change : goal.returns-then-has_decided-clause-change
returns-then-has_decided-clause-change g c =
    (told_far g.S.Lock.PartialEq.eq g.S.Scripts.reply_of g.S.Scripts.effects_of (g.S.Scripts.system c.args.setting.now)
    (g.S.Scripts.ResumePointIsValid c.args.setting.now) g.row.READINGS g.row.HELD c.requires.may.scripts c.args.program.now c.apply_plain.new.program Seized
    c.requires.none (c.apply_plain.ensures.validated ∙ c.requires.none) c.apply_plain.ensures.change c.apply_plain.ensures.valid).0

pub returns-then-has_decided-clause-valid : goal.returns-then-has_decided-clause-valid
returns-then-has_decided-clause-valid g c =
    (told_far g.S.Lock.PartialEq.eq g.S.Scripts.reply_of g.S.Scripts.effects_of (g.S.Scripts.system c.args.setting.now)
    (g.S.Scripts.ResumePointIsValid c.args.setting.now) g.row.READINGS g.row.HELD c.requires.may.scripts c.args.program.now c.apply_plain.new.program Seized
    c.requires.none (c.apply_plain.ensures.validated ∙ c.requires.none) c.apply_plain.ensures.change c.apply_plain.ensures.valid).1

pub returns-in-Some-clause-change : goal.returns-in-Some-clause-change
returns-in-Some-clause-change g c =
    (seizes g.S.Lock.PartialEq.eq g.S.Scripts.reply_of g.S.Scripts.effects_of (g.S.Scripts.system c.args.setting.now)
    (g.S.Scripts.ResumePointIsValid c.args.setting.now) g.row.READINGS g.row.HELD c.requires.may.scripts c.args.program.now c.predict.new.program
    c.hold_seized.new.program.predicted c.in-Some.lock _ c.requires.may.valid c.requires.none c.in-Some.ensures.lock c.hold_seized.ensures.held
    c.predict.ensures).0

pub returns-in-Some-clause-valid : goal.returns-in-Some-clause-valid
returns-in-Some-clause-valid g c =
    (seizes g.S.Lock.PartialEq.eq g.S.Scripts.reply_of g.S.Scripts.effects_of (g.S.Scripts.system c.args.setting.now)
    (g.S.Scripts.ResumePointIsValid c.args.setting.now) g.row.READINGS g.row.HELD c.requires.may.scripts c.args.program.now c.predict.new.program
    c.hold_seized.new.program.predicted c.in-Some.lock _ c.requires.may.valid c.requires.none c.in-Some.ensures.lock c.hold_seized.ensures.held
    c.predict.ensures).1

pub returns-in_default-clause-change : goal.returns-in_default-clause-change
returns-in_default-clause-change g c =
    (told_far g.S.Lock.PartialEq.eq g.S.Scripts.reply_of g.S.Scripts.effects_of (g.S.Scripts.system c.args.setting.now)
    (g.S.Scripts.ResumePointIsValid c.args.setting.now) g.row.READINGS g.row.HELD c.requires.may.scripts c.args.program.now c.args.program.now Seized
    c.requires.none c.requires.none (not_seized g.S.Lock.PartialEq.eq g.S.Scripts.reply_of g.S.Scripts.effects_of (g.S.Scripts.system c.args.setting.now)
    (g.S.Scripts.ResumePointIsValid c.args.setting.now) c.args.program.now.predicted c.in_default.ensures.lock
    c.valid_without_predictions.ensures.valid.point).change c.valid_without_predictions.ensures.valid).0

pub returns-in_default-clause-valid : goal.returns-in_default-clause-valid
returns-in_default-clause-valid g c =
    (told_far g.S.Lock.PartialEq.eq g.S.Scripts.reply_of g.S.Scripts.effects_of (g.S.Scripts.system c.args.setting.now)
    (g.S.Scripts.ResumePointIsValid c.args.setting.now) g.row.READINGS g.row.HELD c.requires.may.scripts c.args.program.now c.args.program.now Seized
    c.requires.none c.requires.none (not_seized g.S.Lock.PartialEq.eq g.S.Scripts.reply_of g.S.Scripts.effects_of (g.S.Scripts.system c.args.setting.now)
    (g.S.Scripts.ResumePointIsValid c.args.setting.now) c.args.program.now.predicted c.in_default.ensures.lock
    c.valid_without_predictions.ensures.valid.point).change c.valid_without_predictions.ensures.valid).1
