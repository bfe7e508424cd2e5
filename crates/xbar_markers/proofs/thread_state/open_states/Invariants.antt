use Rattle.std.proofs.Common.{◌≡◌, ◌++◌, All, length, map}
use Rattle.{fair_queue.specs.Tickets.with_fewer_parts, xbar_markers.specs.{Gates.AreForDesks, ThreadStates.{AreStatesOf, IsThreadState, desk_at}, Work.IsReady}}
use Rattle.xbar_markers.proofs.thread_state.open_states.Given as goal

abbrev pub invariant-loop-desk : goal.invariant-loop-desk
invariant-loop-desk g l = record {
  whole : l.yielded ++ l.desk-iterator.rest.items ≡ l.fn.desks.items;
  gates_left : length l.gates.rest.items ≡ length l.desk-iterator.rest.items;
  for_desks : AreForDesks g.G.Gate.IsAt l.gates.rest.items l.desk-iterator.rest.items;
  calls : l.whole.calls ≡ with_fewer_parts l.fn.whole.calls (length l.yielded);
  tasks : l.whole.tasks ≡ with_fewer_parts l.fn.whole.tasks (length l.yielded);
  lists : (l.whole.kept ≡ l.fn.whole.kept) × (l.whole.ended ≡ l.fn.whole.ended);
  ready : All (λ desk. IsReady desk l.fabric) l.desk-iterator.rest.items;
  desks : map desk_at l.states.items ≡ l.yielded;
  states : All (λ state. IsThreadState (desk_at state).kind l.fabric l.queues state) l.states.items;
  none : AreStatesOf l.yielded l.states.items;
}
