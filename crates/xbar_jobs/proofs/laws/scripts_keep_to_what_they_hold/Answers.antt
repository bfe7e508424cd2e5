use Rattle.xbar_jobs.proofs.JobKeeps.{script_keeps}
use Rattle.xbar_jobs.proofs.laws.scripts_keep_to_what_they_hold.Goals as goal

pub returns : goal.returns
returns c = script_keeps
