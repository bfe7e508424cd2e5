use Rattle.attempts.proofs.attempt.Attempt.begin_job.Goals as goal

pub start_over-requires : goal.start_over-requires
start_over-requires g c = search
