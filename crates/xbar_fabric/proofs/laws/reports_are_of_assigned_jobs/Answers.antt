use Rattle.xbar_fabric.proofs.GrownRecords.{advance_ends, advance_grown}
use Rattle.xbar_fabric.proofs.laws.reports_are_of_assigned_jobs.Goals as goal

pub returns : goal.returns
returns c = record {
  job = λ before after event advanced. (advance_grown before after event advanced).job;
  reported = advance_ends;
}
