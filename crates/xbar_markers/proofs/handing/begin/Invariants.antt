use Rattle.std.proofs.Common.{◌≤◌}
use Rattle.{xbar_fabric.specs.Views.IsDeskOf, xbar_markers.specs.Handing.IsLeft}
use Rattle.xbar_markers.proofs.handing.begin.Given as goal

abbrev pub invariant-loop-made : goal.invariant-loop-made
invariant-loop-made l = record {
  of : IsDeskOf l.desk l.fabric;
  below : l._made ≤ l.stop;
  left : IsLeft l.fn.desk l.job_no l.fn.job l._made l.desk;
}
