use Rattle.desk_attempts.proofs.jobs.AttemptsJobs.outcome.Goals as goal

pub returns : goal.returns
returns g c = c.outcome_now.ensures
