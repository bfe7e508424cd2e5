use Rattle.xbar_fabric.specs.Views.{IsDeskOf}
use Rattle.marker_tests.proofs.threads.driving.run_on.Given as goal

abbrev pub invariant-loop-made : goal.invariant-loop-made
invariant-loop-made l = IsDeskOf l.shift.desk l.fabric
