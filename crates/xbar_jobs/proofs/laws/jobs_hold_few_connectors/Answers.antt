use Rattle.xbar_jobs.proofs.{Counts.held_is_few, JobBounds.job_seizes}
use Rattle.xbar_jobs.proofs.laws.jobs_hold_few_connectors.Goals as goal

pub returns-clause-others : goal.returns-clause-others
returns-clause-others c = job_seizes

pub returns-clause-valid : goal.returns-clause-valid
returns-clause-valid c = λ plan a valid. valid.few

pub returns-clause-told : goal.returns-clause-told
returns-clause-told c = λ plan job answers laws in_range told. held_is_few plan laws job answers in_range told
