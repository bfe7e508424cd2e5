use Rattle.xbar_match.proofs.CountedPaths.{counted}
use Rattle.xbar_match.proofs.laws.closed_fields_count_the_paths.Goals as goal

pub returns-clause-line_switches : goal.returns-clause-line_switches
returns-clause-line_switches c = λ words paths long shows ranges apart is_set. (counted words paths long shows ranges apart is_set).lines

pub returns-clause-switches : goal.returns-clause-switches
returns-clause-switches c = λ words paths long shows ranges apart is_set. (counted words paths long shows ranges apart is_set).closed
