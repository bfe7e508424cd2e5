use Rattle.fair_queue.proofs.Moves.{learns}
use Rattle.fair_queue.proofs.ticket.Ticket.audit.Goals as goal

pub learn_as-requires-clause-rule : goal.learn_as-requires-clause-rule
learn_as-requires-clause-rule g c = learns g.X.Item.sound _ _
