use Rattle.desk_attempts.proofs.SpeculationNow.{of_any, of_none, unless_any}
use Rattle.desk_attempts.proofs.jobs.AttemptsJobs.next_past_turn.Goals as goal

pub returns-clause-turned : goal.returns-clause-turned
returns-clause-turned g c = of_any c.on_word.result c.in_ok-step.ensures.turned

pub returns-clause-none : goal.returns-clause-none
returns-clause-none g c = of_none _ _ c.on_word.result c.on_word.ensures.none

pub returns-in_err-step-clause-none : goal.returns-in_err-step-clause-none
returns-in_err-step-clause-none g c = unless_any c.from_residual.result (λ past. absurd (c.in_err-step.ensures.none past))
