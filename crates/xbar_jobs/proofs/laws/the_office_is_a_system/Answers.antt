use Rattle.xbar_jobs.proofs.OfficeSystem.{office_is}
use Rattle.xbar_jobs.proofs.laws.the_office_is_a_system.Goals as goal

pub returns : goal.returns
returns c = office_is
