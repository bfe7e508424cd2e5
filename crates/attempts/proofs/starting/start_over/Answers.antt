use Rattle.std.proofs.Common.{ap}
use Rattle.attempts.{specs.Validity.AttemptView, proofs.Beginning.{begun_again, starts}}
use Rattle.attempts.proofs.starting.start_over.Goals as goal

pub start_over-requires : goal.start_over-requires
start_over-requires g c = search

pub returns-clause-begins : goal.returns-clause-begins
returns-clause-begins g c =
    λ setting. begun_again g.S.Lock.PartialEq.eq g.S.Scripts.reply_of g.S.Scripts.effects_of (g.S.Scripts.system setting) _ c.args.attempt.now
    c.start_over.new.self c.first-lock.result c.start-point.result c.attempt.view_is (c.first-lock.ensures setting) c.start_over.ensures

pub returns-clause-point : goal.returns-clause-point
returns-clause-point g c =
    λ setting seen. starts (g.S.Scripts.ResumePointIsValid setting) seen _ c.args.attempt.now c.start_over.new.self c.first-lock.result c.start-point.result
    c.attempt.view_is (c.start-point.ensures setting seen) c.start_over.ensures

pub returns-clause-count : goal.returns-clause-count
returns-clause-count g c = ap (λ (p : AttemptView _ _ _ _). p.count) c.start_over.ensures
