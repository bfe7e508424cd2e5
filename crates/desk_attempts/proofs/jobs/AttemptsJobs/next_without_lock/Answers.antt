use Rattle.desk_attempts.proofs.SpeculationNow.{of_any}
use Rattle.desk_attempts.proofs.jobs.AttemptsJobs.next_without_lock.Goals as goal

pub returns-clause-asks_none : goal.returns-clause-asks_none
returns-clause-asks_none g c = of_any c.on_word.result c.in_ok-step.ensures.asks_none
