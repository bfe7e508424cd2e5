use Rattle.std.proofs.Common.{ap, subst, sym, ◌∙◌}
use Rattle.attempts.{specs.{Counting.counted_by, Running.RunsFarEnough, Validity.AttemptView}, proofs.{WalkRuns.leads_counted, Onward.stands_counted}}
use Rattle.attempts.proofs.running.run.Goals as goal

pub count_steps-requires : goal.count_steps-requires
count_steps-requires g c = search

pub returns-clause-steps : goal.returns-clause-steps
returns-clause-steps g c =
    leads_counted g.S.Lock.PartialEq.eq g.S.Scripts.reply_of g.S.Scripts.effects_of (g.S.Scripts.system c.args.setting.now)
    (g.S.Scripts.ResumePointIsValid c.args.setting.now) c.args.actor c.make_steps-made.result c.args.attempt.now c.make_steps-made.new.attempt
    c.count_steps.new.self _ _ c.count_steps.ensures c.make_steps-made.ensures.steps

pub returns-clause-most : goal.returns-clause-most
returns-clause-most g c = c.make_steps-made.ensures.fits

pub returns-clause-far : goal.returns-clause-far
returns-clause-far g c =
    subst (λ (p : AttemptView _ _ _ _). RunsFarEnough (g.S.Scripts.system c.args.setting.now).lock_word c.make_steps-made.new.words c.args.most
    c.make_steps-made.result c.args.attempt.now.phase p.phase) (sym c.count_steps.ensures) c.make_steps-made.ensures.far

pub returns-clause-count : goal.returns-clause-count
returns-clause-count g c =
    ap (λ (p : AttemptView _ _ _ _). p.count) c.count_steps.ensures ∙ ap (counted_by c.make_steps-made.result) c.make_steps-made.ensures.count

pub returns-clause-valid : goal.returns-clause-valid
returns-clause-valid g c =
    stands_counted g.S.Lock.PartialEq.eq g.S.Scripts.reply_of g.S.Scripts.effects_of (g.S.Scripts.system c.args.setting.now)
    (g.S.Scripts.ResumePointIsValid c.args.setting.now) g.row.READINGS g.row.HELD c.requires.scripts c.make_steps-made.new.attempt c.count_steps.new.self _
    c.make_steps-made.ensures.valid c.count_steps.ensures
