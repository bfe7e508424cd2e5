use Rattle.std.proofs.Common.{◌≡◌, ◌+◌, ◌++◌, List, All, length, map}
use Rattle.{xbar_moves.specs.declared.kinds.Kind.Kind, xbar_fabric.specs.Views.DeskView}
use Rattle.xbar_markers.specs.{ThreadStates.{AreStatesOf, IsThreadState, desk_at}, Shares.{IsShareOf, MayUse}}
use Rattle.xbar_markers.proofs.thread_state.gather.Given as goal

abbrev pub invariant-loop-state : goal.invariant-loop-state
invariant-loop-state g l = record {
  whole : l.yielded ++ l.state-iterator.rest.items ≡ l.fn.states.items;
  left : (kind : Kind) × All (IsThreadState kind l._fabric l.queues) l.state-iterator.rest.items;
  may : MayUse l.whole l.queues;
  calls : l.whole.calls.parts ≡ l.fn.whole.calls.parts + length l.yielded;
  tasks : l.whole.tasks.parts ≡ l.fn.whole.tasks.parts + length l.yielded;
  put : l.whole.calls.put ≡ l.fn.whole.calls.put;
  workers : l.workers.items ≡ l.fn.workers.items ++ map (λ state. state.worker) l.yielded;
  shares : (befores desks others : List DeskView) → IsShareOf befores desks l.fn.whole
      → AreStatesOf others l.yielded
      → IsShareOf (befores ++ others) (desks ++ map desk_at l.yielded) l.whole;
}
