use Rattle.std.proofs.Common.{ℕ, ap, refl, ◌∙◌}
use Rattle.turns.specs.{declared.{phase.Phase.Phase, lock_sharing.LockSharing.LockSharing}, Sharings.sharing_of, Attempt.{act, answer_to, change}}
use Rattle.{attempts.specs.{Answers.answer_in, SystemWith.system_with}, desk_attempts.specs.Speculation.now_of}
use Rattle.desk_attempts.proofs.{SpeculationNow.{seen_waiting, told_far}, FirstFieldFits.first_field_fits}
use Rattle.desk_attempts.proofs.now.apply_found.Goals as goal

pub returns-in-Some-clause-next : goal.returns-in-Some-clause-next
returns-in-Some-clause-next g c =
    c.apply_to_prediction.ensures.change
    ∙ ap (change (system_with g.S.Lock.PartialEq.eq g.S.Scripts.reply_of g.S.Scripts.effects_of (g.S.Scripts.system c.args.setting.now))
    (now_of g.S.Scripts.reply_of g.S.Scripts.effects_of c.args.program.now))
    (seen_waiting g.S.Scripts.reply_of g.S.Scripts.effects_of
    (λ a. answer_to (system_with g.S.Lock.PartialEq.eq g.S.Scripts.reply_of g.S.Scripts.effects_of (g.S.Scripts.system c.args.setting.now)) c.args.actor (act a)
    c.args.found) c.args.program.now c.in-Some.prediction c.in-Some.ensures)

pub returns-in-Some-clause-answer : goal.returns-in-Some-clause-answer
returns-in-Some-clause-answer g c =
    seen_waiting g.S.Scripts.reply_of g.S.Scripts.effects_of
    (λ a. answer_to (system_with g.S.Lock.PartialEq.eq g.S.Scripts.reply_of g.S.Scripts.effects_of (g.S.Scripts.system c.args.setting.now)) c.args.actor (act a)
    c.args.found) c.args.program.now c.in-Some.prediction c.in-Some.ensures

pub returns-in-None-clause-next : goal.returns-in-None-clause-next
returns-in-None-clause-next g c =
    c.apply_without_prediction.ensures.change
    ∙ ap (change (system_with g.S.Lock.PartialEq.eq g.S.Scripts.reply_of g.S.Scripts.effects_of (g.S.Scripts.system c.args.setting.now))
    (now_of g.S.Scripts.reply_of g.S.Scripts.effects_of c.args.program.now))
    (c.step_answer-answer.ensures
    ∙ ap (λ (sharing : LockSharing). answer_in (sharing_of sharing) c.phase-phase.result c.args.actor c.args.found) c.sharing.ensures
    ∙ ap (λ (phase : Phase _ ℕ). answer_in (sharing_of (g.S.Scripts.system c.args.setting.now).sharing) phase c.args.actor c.args.found) c.phase-phase.ensures
    ∙ told_far g.S.Lock.PartialEq.eq g.S.Scripts.reply_of g.S.Scripts.effects_of (g.S.Scripts.system c.args.setting.now) c.args.actor c.args.found _ _
    c.program.inside.validated c.args.program.now refl c.program.view_is c.in-None.ensures)

pub returns-in-None-clause-answer : goal.returns-in-None-clause-answer
returns-in-None-clause-answer g c =
    c.step_answer-answer.ensures
    ∙ ap (λ (sharing : LockSharing). answer_in (sharing_of sharing) c.phase-phase.result c.args.actor c.args.found) c.sharing.ensures
    ∙ ap (λ (phase : Phase _ ℕ). answer_in (sharing_of (g.S.Scripts.system c.args.setting.now).sharing) phase c.args.actor c.args.found) c.phase-phase.ensures
    ∙ told_far g.S.Lock.PartialEq.eq g.S.Scripts.reply_of g.S.Scripts.effects_of (g.S.Scripts.system c.args.setting.now) c.args.actor c.args.found _ _
    c.program.inside.validated c.args.program.now refl c.program.view_is c.in-None.ensures

pub phase-phase-requires : goal.phase-phase-requires
phase-phase-requires g c = search (first_field_fits)
