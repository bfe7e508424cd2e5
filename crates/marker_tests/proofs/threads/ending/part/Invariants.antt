use Rattle.std.proofs.Common.{◌≡◌, ◌+◌, All, vec_len}
use Rattle.{std.specs.Vec.Iter.{into_iter_items, into_iter_len}, xbar_fabric.specs.Views.IsDeskOf, marker_tests.specs.Shifts.AreInOrder}
use Rattle.marker_tests.proofs.threads.ending.part.Given as goal

abbrev pub invariant-loop-shift : goal.invariant-loop-shift
invariant-loop-shift g l = record {
  rest : All (λ shift. IsDeskOf shift.desk l.fabric) (into_iter_items l.shift-iterator);
  left : into_iter_len l.shift-iterator + vec_len l.desks ≡ vec_len l.fn.shifts;
  order : AreInOrder l.desks.items l.fabric;
}
