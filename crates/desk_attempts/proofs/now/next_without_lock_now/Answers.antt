use Rattle.std.proofs.Common.{◌≡◌, refl, subst, IfSome, None}
use Rattle.{turns.specs.Attempt.{act, asked_in}, desk_attempts.proofs.{SpeculationNow.{seen_far, seen_waiting}, FirstFieldFits.first_field_fits}}
use Rattle.desk_attempts.proofs.now.next_without_lock_now.Goals as goal

pub returns-in-Some-clause-next : goal.returns-in-Some-clause-next
returns-in-Some-clause-next g c = seen_waiting g.S.Scripts.reply_of g.S.Scripts.effects_of (λ a. act a) c.args.program.now _ c.in-Some.ensures

pub returns-in-Some-clause-asks_none : goal.returns-in-Some-clause-asks_none
returns-in-Some-clause-asks_none g c =
    subst (λ phase. asked_in phase ≡ None) (seen_waiting g.S.Scripts.reply_of g.S.Scripts.effects_of (λ a. a.phase) c.args.program.now _ c.in-Some.ensures) refl

pub returns-in-None-clause-next : goal.returns-in-None-clause-next
returns-in-None-clause-next g c =
    subst (λ a. IfSome c.next_without_lock.result (λ step. step ≡ act a))
    (seen_far g.S.Scripts.reply_of g.S.Scripts.effects_of (λ a. a) c.program.inside.predicted c.program.inside.validated c.args.program.now c.program.view_is
    c.in-None.ensures) c.next_without_lock.ensures.next

pub returns-in-None-clause-asks_none : goal.returns-in-None-clause-asks_none
returns-in-None-clause-asks_none g c =
    subst (λ phase. IfSome c.next_without_lock.result (λ step. asked_in phase ≡ None))
    (seen_far g.S.Scripts.reply_of g.S.Scripts.effects_of (λ a. a.phase) c.program.inside.predicted c.program.inside.validated c.args.program.now
    c.program.view_is c.in-None.ensures) c.next_without_lock.ensures.asks_none

pub prediction-requires : goal.prediction-requires
prediction-requires g c = search

pub next_without_lock-requires : goal.next_without_lock-requires
next_without_lock-requires g c = search (first_field_fits)
