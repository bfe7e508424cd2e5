use Rattle.std.proofs.Common.{◌≡◌}
use Rattle.crossbeam_channel.specs.{Claims.{view, IsSeatAt}, Ends.sends_on}
use Rattle.fair_queue.proofs.inlet.Inlet.put.Given as goal

abbrev pub invariant-loop : goal.invariant-loop
invariant-loop g l = record {
  seat : IsSeatAt (sends_on l.self-inside.sender) l.ticket-inside.pass;
  knows : view l.ticket-inside.pass ≡ view l.initial.ticket-inside.pass;
  item : l.item ≡ l.fn.item;
}
