use Rattle.xbar_moves.proofs.{AskedConnectors.{preference_true, refusal_true}, LeastRequests.preferred_least}
use Rattle.xbar_moves.proofs.laws.events_tell_the_truth.Goals as goal

pub returns-clause-refused : goal.returns-clause-refused
returns-clause-refused c = refusal_true

pub returns-clause-preferred : goal.returns-clause-preferred
returns-clause-preferred c = preference_true

pub returns-clause-least : goal.returns-clause-least
returns-clause-least c = preferred_least
