use Rattle.xbar_moves.proofs.{KeptConnectors.keeps_held, FreedConnectors.frees_when}
use Rattle.xbar_moves.proofs.laws.attempts_keep_their_order.Goals as goal

pub returns-clause-keeps : goal.returns-clause-keeps
returns-clause-keeps c = keeps_held

pub returns-clause-frees : goal.returns-clause-frees
returns-clause-frees c = frees_when
