use Rattle.xbar_office.proofs.EndsOfJobs.{only_gives_back, idle_then}
use Rattle.xbar_office.proofs.laws.a_completing_job_gives_its_register_back.Goals as goal

pub returns-clause-set : goal.returns-clause-set
returns-clause-set c =
    λ plan paths line dialled own laws lawful in_range register none. only_gives_back plan paths line dialled laws lawful in_range own register none

pub returns-clause-line : goal.returns-clause-line
returns-clause-line c =
    λ plan paths line dialled own laws lawful in_range register none. idle_then plan paths line dialled laws lawful in_range own register none
