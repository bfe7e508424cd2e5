use Rattle.std.proofs.Common.{ap, sym, ◌∙◌}
use Rattle.{turns.specs.{Attempt.act_in, declared.phase.Phase.TheVariants.Operates}, attempts.{specs.Validity.attempt_of, proofs.Inside.phase_now}}
use Rattle.attempts.proofs.next_step.next_past_turn.Goals as goal

pub returns-in-Operates-clause-next : goal.returns-in-Operates-clause-next
returns-in-Operates-clause-next g c =
    c.next_closing.ensures
    ∙ ap (λ phase. act_in phase (attempt_of g.S.Scripts.reply_of g.S.Scripts.effects_of c.args.attempt.now))
    (sym (phase_now _ c.args.attempt.now (Operates c.in-Operates.field-0) c.attempt.view_is c.in-Operates.is))

pub returns-in-Operates-clause-turned : goal.returns-in-Operates-clause-turned
returns-in-Operates-clause-turned g c =
    (c.in-Operates.field-0, phase_now _ c.args.attempt.now (Operates c.in-Operates.field-0) c.attempt.view_is c.in-Operates.is)

pub next_closing-requires : goal.next_closing-requires
next_closing-requires g c = search
