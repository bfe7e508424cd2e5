use Rattle.xbar_office.proofs.{ChosenLines.complete_joins, EndsOfJobs.never_its_own_line}
use Rattle.xbar_office.proofs.laws.a_call_never_gets_a_path_to_its_own_line.Goals as goal

pub returns-clause-calling : goal.returns-clause-calling
returns-clause-calling c = λ plan paths line dialled calling called trial is. complete_joins plan line calling called trial paths dialled is

pub returns-clause-called : goal.returns-clause-called
returns-clause-called c =
    λ plan paths line dialled laws lawful in_range calling called trial is. never_its_own_line plan paths line dialled laws lawful in_range calling called trial
    is
