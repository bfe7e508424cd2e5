use Rattle.std.proofs.Common.{◌<◌}
use Rattle.fair_queue.specs.Tickets.{IsTicketOf}
use Rattle.law_tests.proofs.queues.put_and_take.Given as goal

abbrev pub invariant-loop-number : goal.invariant-loop-number
invariant-loop-number g l = record {
  queue : IsTicketOf l.ticket l.inlet;
  part : 0 < l.ticket.parts;
}
