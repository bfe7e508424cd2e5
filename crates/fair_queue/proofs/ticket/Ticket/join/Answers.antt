use Rattle.fair_queue.proofs.Moves.{merges}
use Rattle.fair_queue.proofs.ticket.Ticket.join.Goals as goal

pub absorb-requires-clause-rule : goal.absorb-requires-clause-rule
absorb-requires-clause-rule g c = merges g.X.Item.sound _ _ _ _
