use Rattle.fair_queue.proofs.{Joining.parts_inside, Moves.forks}
use Rattle.fair_queue.proofs.ticket.Ticket.cut.Goals as goal

pub another-pass-requires-clause-rule : goal.another-pass-requires-clause-rule
another-pass-requires-clause-rule g c =
    forks g.X.Item.sound _ _ (parts_inside c.self.view_is c.requires.parts)
