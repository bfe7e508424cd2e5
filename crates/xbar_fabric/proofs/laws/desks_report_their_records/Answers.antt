use Rattle.xbar_fabric.proofs.Reporting.{advanced_worked, assigned_worked, back_worked, both_worked, learned_worked, met_worked, run_worked, stepped_worked}
use Rattle.xbar_fabric.proofs.laws.desks_report_their_records.Goals as goal

pub returns : goal.returns
returns c = record {
  assigned = assigned_worked;
  advanced = advanced_worked;
  stepped = stepped_worked;
  run = run_worked;
  given_back = back_worked;
  learned = learned_worked;
  met = met_worked;
  both = both_worked;
}
