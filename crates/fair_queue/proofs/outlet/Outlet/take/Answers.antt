use Rattle.fair_queue.proofs.{Joining.parts_inside, Moves.{takes, learns}}
use Rattle.fair_queue.proofs.outlet.Outlet.take.Goals as goal

pub recv_as-requires-clause-rule : goal.recv_as-requires-clause-rule
recv_as-requires-clause-rule g c =
    let part = parts_inside c.ticket.view_is c.requires.ticket.1 in
    (takes g.X.Item.sound _ _ part, learns g.X.Item.sound _ _)
