use Rattle.std.proofs.Common.{◌<◌, ◌∙◌, ap, subst, sym}
use Rattle.{crossbeam_channel.specs.Err.IsFull, fair_queue.{specs.{declared.rule.Hand.Hand, Tickets.TicketView}, proofs.Moves.{puts, learns, full_length}}}
use Rattle.fair_queue.proofs.inlet.Inlet.put.Goals as goal

pub try_send_as-requires-clause-rule : goal.try_send_as-requires-clause-rule
try_send_as-requires-clause-rule g c =
    let kept = c.loop.invariant in
    let parts =
    ap (λ (v : Hand _). v.parts) kept.knows
    ∙ ap (λ (t : TicketView _). t.parts) c.ticket.view_is in
    let part = subst (λ n. 0 < n) (sym parts) c.requires.ticket.1 in
    let sound = subst g.X.Item.sound (sym kept.item) c.requires.sound in
    (puts g.X.Item.sound _ _ _ _ sound part, learns g.X.Item.sound _ _)

pub returns-in-Err-Full-clause-full : goal.returns-in-Err-Full-clause-full
returns-in-Err-Full-clause-full g c =
    let held = c.in-Err-Full.ensures.rule.2 (subst IsFull (sym c.in-Err-Full.field-0-is) tt) in
    rw (← c.ticket.view_is, ← c.self.view_is, ← c.loop.invariant.knows)
    (λ whole. full_length g.X.Item.sound _ _ whole held)
