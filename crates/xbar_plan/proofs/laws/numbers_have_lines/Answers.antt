use Rattle.xbar_plan.proofs.LawfulLookups.{lines_of-count, lines_of-range}
use Rattle.xbar_plan.proofs.laws.numbers_have_lines.Goals as goal

pub returns-clause-count : goal.returns-clause-count
returns-clause-count c = lines_of-count

pub returns-clause-range : goal.returns-clause-range
returns-clause-range c = lines_of-range
