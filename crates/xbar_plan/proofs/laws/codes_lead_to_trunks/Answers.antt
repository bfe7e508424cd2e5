use Rattle.xbar_plan.proofs.LawfulLookups.{route_of-count, route_of-range, route_of-trunks}
use Rattle.xbar_plan.proofs.laws.codes_lead_to_trunks.Goals as goal

pub returns-clause-count : goal.returns-clause-count
returns-clause-count c = route_of-count

pub returns-clause-range : goal.returns-clause-range
returns-clause-range c = route_of-range

pub returns-clause-kind : goal.returns-clause-kind
returns-clause-kind c = route_of-trunks
