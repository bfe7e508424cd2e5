use Rattle.desk_attempts.proofs.jobs.AttemptsJobs.next.Goals as goal

pub next_now-step-requires : goal.next_now-step-requires
next_now-step-requires g c = search
