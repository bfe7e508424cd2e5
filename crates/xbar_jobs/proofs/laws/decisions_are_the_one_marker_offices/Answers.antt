use Rattle.xbar_jobs.proofs.JobTurns.{decided_does}
use Rattle.xbar_jobs.proofs.laws.decisions_are_the_one_marker_offices.Goals as goal

pub returns : goal.returns
returns c = decided_does
