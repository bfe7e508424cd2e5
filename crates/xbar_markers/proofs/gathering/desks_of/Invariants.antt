use Rattle.std.proofs.Common.{◌≡◌, ◌++◌, map}
use Rattle.xbar_markers.proofs.gathering.desks_of.Given as goal

abbrev pub invariant-loop-worker : goal.invariant-loop-worker
invariant-loop-worker g l = record {
  desks : l.desks.items ≡ map (λ worker. worker.desk) l.yielded;
  rest : l.yielded ++ l.worker-iterator.rest.items ≡ l.fn.workers.items;
}
