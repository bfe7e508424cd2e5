use Rattle.xbar_plan.proofs.LawfulLookups.{register_group-is, register_group-only}
use Rattle.xbar_plan.proofs.laws.one_group_has_registers.Goals as goal

pub returns-clause-there : goal.returns-clause-there
returns-clause-there c = register_group-is

pub returns-clause-only : goal.returns-clause-only
returns-clause-only c = register_group-only
