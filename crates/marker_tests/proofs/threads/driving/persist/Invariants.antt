use Rattle.xbar_fabric.specs.Views.{IsDeskOf}
use Rattle.marker_tests.proofs.threads.driving.persist.Given as goal

abbrev pub invariant-loop-begun : goal.invariant-loop-begun
invariant-loop-begun l = IsDeskOf l.shift.desk l.fabric
