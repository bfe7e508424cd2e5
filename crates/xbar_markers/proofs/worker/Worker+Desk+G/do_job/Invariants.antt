use Rattle.std.proofs.Common.{◌≡◌, false}
use Rattle.{xbar_moves.specs.Exchange.is_idle, xbar_markers.specs.Work.{HasPassed, IsDoing, assigned_to}}
use Rattle.xbar_markers.proofs.worker.Worker+Desk+G.do_job.Given as goal

abbrev pub invariant-loop : goal.invariant-loop
invariant-loop g l = record {
  doing : IsDoing l.job_no l.fn.job l.fn.self.desk l.self.desk;
  busy : is_idle l.self.desk.work ≡ false;
  passed : HasPassed (assigned_to l.fn.self.desk l.job_no l.fn.job) l.self.desk l.fn.self.gate l.self.gate;
}
