use Rattle.fair_queue.proofs.Moves.{begins}
use Rattle.fair_queue.proofs.opening.bounded.Goals as goal

pub bounded_with-requires-clause-rule : goal.bounded_with-requires-clause-rule
bounded_with-requires-clause-rule g c = begins g.X.Item.sound
