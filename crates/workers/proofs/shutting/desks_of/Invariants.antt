use Rattle.std.proofs.Common.{◌≡◌, ◌++◌, map, vec_capacity}
use Rattle.workers.proofs.shutting.desks_of.Given as goal

abbrev pub invariant-loop-shift : goal.invariant-loop-shift
invariant-loop-shift g l = record {
  desks : l.desks.items ≡ map (λ shift. shift.desk) l.yielded;
  rest : l.yielded ++ l.shift-iterator.rest.items ≡ l.fn.shifts.items;
  capacity : vec_capacity l.desks ≡ vec_capacity l.fn.desks;
}
