use Rattle.desk_attempts.proofs.jobs.AttemptsJobs.is_giving_back.Goals as goal

pub returns : goal.returns
returns g c = c.gives_back.ensures
