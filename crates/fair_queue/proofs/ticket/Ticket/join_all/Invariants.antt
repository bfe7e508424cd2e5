use Rattle.std.proofs.Common.{◌≡◌, ◌++◌, All}
use Rattle.fair_queue.specs.Tickets.{IsTicketOf, ticket_of_all}
use Rattle.fair_queue.proofs.ticket.Ticket.join_all.Given as goal

abbrev pub invariant-loop-other : goal.invariant-loop-other
invariant-loop-other g l = record {
  whole : l.yielded ++ l.other-iterator.rest.items ≡ l.fn.others.items;
  left : All (λ other. IsTicketOf other l.inlet) l.other-iterator.rest.items;
  joined : l.self ≡ ticket_of_all l.fn.self l.yielded;
}
