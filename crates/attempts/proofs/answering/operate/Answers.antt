use Rattle.std.proofs.Common.{ap}
use Rattle.attempts.{specs.Validity.AttemptView, proofs.Applied.{frees_lock, makes_effect}}
use Rattle.attempts.proofs.answering.operate.Goals as goal

pub returns-in-Some-clause-operates : goal.returns-in-Some-clause-operates
returns-in-Some-clause-operates g c =
    makes_effect g.S.Scripts.reply_of g.S.Scripts.effects_of _ c.args.attempt.now c.in-Some.field-0 c.attempt.view_is c.in-Some.ensures.some

pub returns-in-Some-clause-phase : goal.returns-in-Some-clause-phase
returns-in-Some-clause-phase g c = ap (λ (p : AttemptView _ _ _ _). p.phase) c.attempt.view_is

pub returns-in-Some-clause-count : goal.returns-in-Some-clause-count
returns-in-Some-clause-count g c = ap (λ (p : AttemptView _ _ _ _). p.count) c.attempt.view_is

pub returns-in-None-clause-operates : goal.returns-in-None-clause-operates
returns-in-None-clause-operates g c =
    frees_lock g.S.Scripts.reply_of g.S.Scripts.effects_of c.args.attempt.now c.drop_first_lock.new.self c.drop_first_lock.ensures c.in-None.ensures.none

pub returns-in-None-clause-phase : goal.returns-in-None-clause-phase
returns-in-None-clause-phase g c = ap (λ (p : AttemptView _ _ _ _). p.phase) c.drop_first_lock.ensures

pub returns-in-None-clause-count : goal.returns-in-None-clause-count
returns-in-None-clause-count g c = ap (λ (p : AttemptView _ _ _ _). p.count) c.drop_first_lock.ensures

pub next_effect-requires : goal.next_effect-requires
next_effect-requires g c = search

pub drop_first_lock-requires : goal.drop_first_lock-requires
drop_first_lock-requires g c = search
