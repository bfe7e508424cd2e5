use Rattle.std.proofs.Common.{ap, ◌∙◌}
use Rattle.attempts.{specs.{Validity.attempt_of, Counting.counted}, proofs.{Onward.{stands_changed, stands_counted}, Applied.counted_so}}
use Rattle.attempts.proofs.answering.apply.Goals as goal

pub count_step-requires : goal.count_step-requires
count_step-requires g c = search

pub returns-clause-change : goal.returns-clause-change
returns-clause-change g c = ap (attempt_of g.S.Scripts.reply_of g.S.Scripts.effects_of) c.count_step.ensures ∙ c.apply_uncounted.ensures.change

pub returns-clause-count : goal.returns-clause-count
returns-clause-count g c =
    counted_so c.apply_uncounted.new.attempt c.count_step.new.self c.args.attempt.now.count counted c.count_step.ensures c.apply_uncounted.ensures.count

pub returns-clause-valid : goal.returns-clause-valid
returns-clause-valid g c =
    stands_counted g.S.Lock.PartialEq.eq g.S.Scripts.reply_of g.S.Scripts.effects_of (g.S.Scripts.system c.args.setting.now)
    (g.S.Scripts.ResumePointIsValid c.args.setting.now) _ _ c.requires.scripts c.apply_uncounted.new.attempt c.count_step.new.self _
    (stands_changed g.S.Lock.PartialEq.eq g.S.Scripts.reply_of g.S.Scripts.effects_of (g.S.Scripts.system c.args.setting.now)
    (g.S.Scripts.ResumePointIsValid c.args.setting.now) _ _ c.requires.scripts c.args.attempt.now c.apply_uncounted.new.attempt c.args.answer
    c.apply_uncounted.ensures.fits c.requires.valid c.apply_uncounted.ensures.change c.apply_uncounted.ensures.point) c.count_step.ensures
