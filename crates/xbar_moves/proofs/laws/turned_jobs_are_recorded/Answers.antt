use Rattle.xbar_moves.proofs.{FinishedJobs.{finished_at, finishes}, HeldWords.past_recorded}
use Rattle.xbar_moves.proofs.laws.turned_jobs_are_recorded.Goals as goal

pub returns-clause-turned : goal.returns-clause-turned
returns-clause-turned c = λ plan e k number turn a lawful at past. past_recorded plan e lawful k number turn a at past

pub returns-clause-place : goal.returns-clause-place
returns-clause-place c = λ plan e k r lawful few ends. finished_at plan e k r lawful few ends

pub returns-clause-job : goal.returns-clause-job
returns-clause-job c = finishes
