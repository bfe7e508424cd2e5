use Rattle.xbar_look.proofs.JobsTold.{told_idle}
use Rattle.xbar_look.proofs.laws.idle_markers_have_no_job.Goals as goal

pub returns : goal.returns
returns c = λ m. told_idle m.work
