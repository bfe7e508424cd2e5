use Rattle.xbar_jobs.proofs.JobBounds.{jobs_bounded}
use Rattle.xbar_jobs.proofs.laws.jobs_are_bounded.Goals as goal

pub returns : goal.returns
returns c = jobs_bounded
