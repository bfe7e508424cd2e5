use Rattle.std.proofs.Common.{ap, sym, ◌∙◌}
use Rattle.turns.specs.{Attempt.closing_act, Runs.is_finished}
use Rattle.attempts.proofs.next_step.is_closed.Goals as goal

pub returns-in-Some : goal.returns-in-Some
returns-in-Some g c = ap (λ effects. is_finished (closing_act effects c.args.attempt.now.held)) (sym c.in-Some.ensures.some)

pub returns-in-None : goal.returns-in-None
returns-in-None g c = c.holds_none.ensures ∙ ap (λ effects. is_finished (closing_act effects c.args.attempt.now.held)) (sym c.in-None.ensures.none)

pub next_effect-requires : goal.next_effect-requires
next_effect-requires g c = search

pub holds_none-requires : goal.holds_none-requires
holds_none-requires g c = search
