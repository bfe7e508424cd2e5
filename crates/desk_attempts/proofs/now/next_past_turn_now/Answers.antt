use Rattle.std.proofs.Common.{◌≡◌, subst, IfNone, IfSome}
use Rattle.{turns.specs.{Attempt.act, Outcomes.IsPastTurn}, desk_attempts.proofs.{SpeculationNow.{seen_far, seen_waiting}, FirstFieldFits.first_field_fits}}
use Rattle.desk_attempts.proofs.now.next_past_turn_now.Goals as goal

pub returns-in-None-clause-next : goal.returns-in-None-clause-next
returns-in-None-clause-next g c =
    subst (λ a. IfSome c.next_past_turn.result (λ step. step ≡ act a))
    (seen_far g.S.Scripts.reply_of g.S.Scripts.effects_of (λ a. a) c.program.inside.predicted c.program.inside.validated c.args.program.now c.program.view_is
    c.in-None.ensures) c.next_past_turn.ensures.next

pub returns-in-None-clause-turned : goal.returns-in-None-clause-turned
returns-in-None-clause-turned g c =
    subst (λ phase. IfSome c.next_past_turn.result (λ step. IsPastTurn phase))
    (seen_far g.S.Scripts.reply_of g.S.Scripts.effects_of (λ a. a.phase) c.program.inside.predicted c.program.inside.validated c.args.program.now
    c.program.view_is c.in-None.ensures) c.next_past_turn.ensures.turned

pub returns-in-None-clause-none : goal.returns-in-None-clause-none
returns-in-None-clause-none g c =
    subst (λ phase. IfNone c.next_past_turn.result (IsPastTurn phase → ⊥))
    (seen_far g.S.Scripts.reply_of g.S.Scripts.effects_of (λ a. a.phase) c.program.inside.predicted c.program.inside.validated c.args.program.now
    c.program.view_is c.in-None.ensures) c.next_past_turn.ensures.none

pub returns-in-Some-clause-none : goal.returns-in-Some-clause-none
returns-in-Some-clause-none g c =
    subst (λ phase. IsPastTurn phase → ⊥) (seen_waiting g.S.Scripts.reply_of g.S.Scripts.effects_of (λ a. a.phase) c.args.program.now _ c.in-Some.ensures)
    (λ past. let is = past.1 in absurd cc)

pub prediction-requires : goal.prediction-requires
prediction-requires g c = search

pub next_past_turn-requires : goal.next_past_turn-requires
next_past_turn-requires g c = search (first_field_fits)
