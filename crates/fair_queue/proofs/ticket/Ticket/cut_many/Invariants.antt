use Rattle.std.proofs.Common.{◌≡◌, ◌≤◌, replicate, vec_capacity, vec_len}
use Rattle.fair_queue.specs.Tickets.{new_ticket, with_fewer_parts}
use Rattle.fair_queue.proofs.ticket.Ticket.cut_many.Given as goal

abbrev pub invariant-loop : goal.invariant-loop
invariant-loop g l = record {
  below : l.counter ≤ l.count;
  left : l.self ≡ with_fewer_parts l.fn.self l.counter;
  len : vec_len l.tickets ≡ l.counter;
  cut : l.tickets.items ≡ replicate l.counter (new_ticket l.fn.self.queue);
  room : l.count ≤ vec_capacity l.tickets;
}
