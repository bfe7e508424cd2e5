use Rattle.std.proofs.Common.{ap}
use Rattle.{turns.specs.{Attempt.{act_in, asked_in}, declared.phase.Phase.TheVariants.{Tests, Turns}}, attempts.specs.Validity.attempt_of}
use Rattle.attempts.proofs.Inside.{in_phase, phase_now}
use Rattle.attempts.proofs.next_step.next_without_lock.Goals as goal

pub returns-in-Tests-clause-next : goal.returns-in-Tests-clause-next
returns-in-Tests-clause-next g c =
    in_phase (λ p phase. act_in phase (attempt_of g.S.Scripts.reply_of g.S.Scripts.effects_of p)) _ c.args.attempt.now (Tests c.in-Tests.word) c.attempt.view_is
    c.in-Tests.is

pub returns-in-Tests-clause-asks_none : goal.returns-in-Tests-clause-asks_none
returns-in-Tests-clause-asks_none g c = ap asked_in (phase_now _ c.args.attempt.now (Tests c.in-Tests.word) c.attempt.view_is c.in-Tests.is)

pub returns-in-Turns-clause-next : goal.returns-in-Turns-clause-next
returns-in-Turns-clause-next g c =
    in_phase (λ p phase. act_in phase (attempt_of g.S.Scripts.reply_of g.S.Scripts.effects_of p)) _ c.args.attempt.now Turns c.attempt.view_is c.in-Turns.is

pub returns-in-Turns-clause-asks_none : goal.returns-in-Turns-clause-asks_none
returns-in-Turns-clause-asks_none g c = ap asked_in (phase_now _ c.args.attempt.now Turns c.attempt.view_is c.in-Turns.is)
