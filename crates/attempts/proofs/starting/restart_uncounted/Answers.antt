use Rattle.std.proofs.Common.{ap, refl, subst, sym}
use Rattle.attempts.{specs.Validity.{AttemptView, ResumePointIsValidIn, attempt_of}, proofs.Giving.{gives_up, stays, withdraws}}
use Rattle.attempts.proofs.starting.restart_uncounted.Goals as goal

pub deny-requires : goal.deny-requires
deny-requires g c = search

pub returns-in-Requests-clause-restarts : goal.returns-in-Requests-clause-restarts
returns-in-Requests-clause-restarts g c =
    λ setting. gives_up g.S.Lock.PartialEq.eq g.S.Scripts.reply_of g.S.Scripts.effects_of (g.S.Scripts.system setting) _ c.args.attempt.now
    c.roll_back.new.attempt c.attempt.view_is c.in-Requests.is (c.roll_back.ensures.frees setting)

pub returns-in-Requests-clause-point : goal.returns-in-Requests-clause-point
returns-in-Requests-clause-point g c = λ setting known. c.roll_back.ensures.point setting

pub returns-in-Requests-clause-count : goal.returns-in-Requests-clause-count
returns-in-Requests-clause-count g c = c.roll_back.ensures.count

pub returns-in-Seizes-clause-restarts : goal.returns-in-Seizes-clause-restarts
returns-in-Seizes-clause-restarts g c =
    λ setting. withdraws g.S.Lock.PartialEq.eq g.S.Scripts.reply_of g.S.Scripts.effects_of (g.S.Scripts.system setting) _ c.args.attempt.now c.deny.new.self
    c.attempt.view_is c.in-Seizes.lock c.in-Seizes.field-1 c.in-Seizes.is c.deny.ensures

pub returns-in-Seizes-clause-point : goal.returns-in-Seizes-clause-point
returns-in-Seizes-clause-point g c =
    λ setting known. subst (λ (p : AttemptView _ _ _ _). ResumePointIsValidIn (g.S.Scripts.ResumePointIsValid setting)
    (attempt_of g.S.Scripts.reply_of g.S.Scripts.effects_of p) p.point p.phase) (sym c.deny.ensures) tt

pub returns-in-Seizes-clause-count : goal.returns-in-Seizes-clause-count
returns-in-Seizes-clause-count g c = ap (λ (p : AttemptView _ _ _ _). p.count) c.deny.ensures

pub returns-in-Withdraws-clause-restarts : goal.returns-in-Withdraws-clause-restarts
returns-in-Withdraws-clause-restarts g c =
    λ setting. stays g.S.Lock.PartialEq.eq g.S.Scripts.reply_of g.S.Scripts.effects_of (g.S.Scripts.system setting) _ c.args.attempt.now c.args.attempt.now
    c.attempt.view_is c.in-Withdraws.is

pub returns-in-Withdraws-clause-point : goal.returns-in-Withdraws-clause-point
returns-in-Withdraws-clause-point g c = λ setting known. known

pub returns-in-Withdraws-clause-count : goal.returns-in-Withdraws-clause-count
returns-in-Withdraws-clause-count g c = refl

pub roll_back-requires : goal.roll_back-requires
roll_back-requires g c = search
