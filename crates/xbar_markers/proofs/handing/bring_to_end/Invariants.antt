use Rattle.std.proofs.Common.{◌≡◌, ℕ, false}
use Rattle.{xbar_office.specs.declared.job.Job.Job, xbar_moves.specs.Exchange.is_idle, xbar_fabric.specs.Views.{DeskView, IsDeskOf}}
use Rattle.xbar_markers.specs.Work.{HasMadeSteps, IsDoing}
use Rattle.xbar_markers.proofs.handing.bring_to_end.Given as goal

abbrev pub invariant-loop : goal.invariant-loop
invariant-loop g l = record {
  of : IsDeskOf l.desk l.fabric;
  busy : is_idle l.desk.work ≡ false;
  doing : (before : DeskView) (number : ℕ) (job : Job) → IsDoing number job before l.fn.desk → IsDoing number job before l.desk;
  made : (count : ℕ) × HasMadeSteps count l.fn.desk l.desk;
}
