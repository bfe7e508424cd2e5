use Rattle.xbar_plan.proofs.LawfulLookups.{is_faulty-range}
use Rattle.xbar_plan.proofs.laws.faults_are_links.Goals as goal

pub returns : goal.returns
returns c = is_faulty-range
