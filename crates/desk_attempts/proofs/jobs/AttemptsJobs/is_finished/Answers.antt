use Rattle.desk_attempts.proofs.jobs.AttemptsJobs.is_finished.Goals as goal

pub returns : goal.returns
returns g c = c.has_ended.ensures
