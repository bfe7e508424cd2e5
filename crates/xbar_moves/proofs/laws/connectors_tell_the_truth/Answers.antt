use Rattle.xbar_moves.proofs.Connectors.{tells_truth}
use Rattle.xbar_moves.proofs.laws.connectors_tell_the_truth.Goals as goal

pub returns : goal.returns
returns c = λ plan e conn lawful range. tells_truth plan e lawful conn range
