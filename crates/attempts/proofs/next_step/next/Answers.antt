use Rattle.std.proofs.Common.{ap, sym, ◌∙◌}
use Rattle.turns.specs.{Attempt.act_in, declared.phase.Phase.TheVariants.{Requests, Seizes, Tests, Turns, Withdraws, GivesBack, Operates}}
use Rattle.attempts.{specs.Validity.attempt_of, proofs.Inside.{in_phase, phase_now}}
use Rattle.attempts.proofs.next_step.next.Goals as goal

pub returns-in-Requests : goal.returns-in-Requests
returns-in-Requests g c =
    in_phase (λ p phase. act_in phase (attempt_of g.S.Scripts.reply_of g.S.Scripts.effects_of p)) _ c.args.attempt.now (Requests c.in-Requests.lock)
    c.attempt.view_is c.in-Requests.is

pub returns-in-Seizes : goal.returns-in-Seizes
returns-in-Seizes g c =
    in_phase (λ p phase. act_in phase (attempt_of g.S.Scripts.reply_of g.S.Scripts.effects_of p)) _ c.args.attempt.now
    (Seizes c.in-Seizes.lock c.in-Seizes.expected) c.attempt.view_is c.in-Seizes.is

pub returns-in-Tests : goal.returns-in-Tests
returns-in-Tests g c =
    in_phase (λ p phase. act_in phase (attempt_of g.S.Scripts.reply_of g.S.Scripts.effects_of p)) _ c.args.attempt.now (Tests c.in-Tests.word) c.attempt.view_is
    c.in-Tests.is

pub returns-in-Turns : goal.returns-in-Turns
returns-in-Turns g c =
    in_phase (λ p phase. act_in phase (attempt_of g.S.Scripts.reply_of g.S.Scripts.effects_of p)) _ c.args.attempt.now Turns c.attempt.view_is c.in-Turns.is

pub returns-in-Withdraws : goal.returns-in-Withdraws
returns-in-Withdraws g c =
    in_phase (λ p phase. act_in phase (attempt_of g.S.Scripts.reply_of g.S.Scripts.effects_of p)) _ c.args.attempt.now (Withdraws c.in-Withdraws.lock)
    c.attempt.view_is c.in-Withdraws.is

pub returns-in-GivesBack : goal.returns-in-GivesBack
returns-in-GivesBack g c =
    c.next_free.ensures
    ∙ ap (λ phase. act_in phase (attempt_of g.S.Scripts.reply_of g.S.Scripts.effects_of c.args.attempt.now))
    (sym (phase_now _ c.args.attempt.now GivesBack c.attempt.view_is c.in-GivesBack.is))

pub returns-in-Operates : goal.returns-in-Operates
returns-in-Operates g c =
    c.next_closing.ensures
    ∙ ap (λ phase. act_in phase (attempt_of g.S.Scripts.reply_of g.S.Scripts.effects_of c.args.attempt.now))
    (sym (phase_now _ c.args.attempt.now (Operates c.in-Operates.field-0) c.attempt.view_is c.in-Operates.is))

pub next_free-requires : goal.next_free-requires
next_free-requires g c = search

pub next_closing-requires : goal.next_closing-requires
next_closing-requires g c = search
