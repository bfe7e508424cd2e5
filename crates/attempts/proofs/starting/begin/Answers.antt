use Rattle.std.proofs.Common.{ap, subst, sym}
use Rattle.attempts.{specs.Validity.AttemptView, proofs.{Beginning.begun, Onward.stands_begun}}
use Rattle.attempts.proofs.starting.begin.Goals as goal

pub new-requires : goal.new-requires
new-requires g c = search

pub returns-clause-begins : goal.returns-clause-begins
returns-clause-begins g c =
    λ setting. begun g.S.Lock.PartialEq.eq g.S.Scripts.reply_of g.S.Scripts.effects_of (g.S.Scripts.system setting) c.args.job c.first-lock.result
    c.start-point.result c.new.result (c.first-lock.ensures setting) c.new.ensures

pub returns-clause-count : goal.returns-clause-count
returns-clause-count g c = ap (λ (p : AttemptView _ _ _ _). p.count) c.new.ensures

pub returns-clause-valid : goal.returns-clause-valid
returns-clause-valid g c =
    λ setting right is_job. stands_begun g.S.Lock.PartialEq.eq g.S.Scripts.reply_of g.S.Scripts.effects_of (g.S.Scripts.system setting)
    (g.S.Scripts.ResumePointIsValid setting) _ _ right c.args.job c.first-lock.result c.start-point.result _ is_job (c.first-lock.ensures setting)
    (c.start-point.ensures setting) c.new.ensures

pub returns-clause-point : goal.returns-clause-point
returns-clause-point g c =
    λ setting seen. subst (λ (p : AttemptView _ _ _ _). g.S.Scripts.ResumePointIsValid setting c.args.job p.point seen) (sym c.new.ensures)
    (c.start-point.ensures setting seen)
