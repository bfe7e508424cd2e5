use Rattle.std.proofs.Common.{ap, sym, ◌∙◌}
use Rattle.turns.specs.Attempt.{closing_act}
use Rattle.attempts.proofs.next_step.next_closing.Goals as goal

pub returns-in-Some : goal.returns-in-Some
returns-in-Some g c = ap (λ effects. closing_act effects c.args.attempt.now.held) (sym c.in-Some.ensures.some)

pub returns-in-None : goal.returns-in-None
returns-in-None g c = c.next_free.ensures ∙ ap (λ effects. closing_act effects c.args.attempt.now.held) (sym c.in-None.ensures.none)

pub next_effect-requires : goal.next_effect-requires
next_effect-requires g c = search

pub next_free-requires : goal.next_free-requires
next_free-requires g c = search
