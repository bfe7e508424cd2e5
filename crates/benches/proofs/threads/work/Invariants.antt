use Rattle.xbar_fabric.specs.Views.{IsDeskOf}
use Rattle.benches.proofs.threads.work.Given as goal

abbrev pub invariant-loop-made : goal.invariant-loop-made
invariant-loop-made l = IsDeskOf l.desk l.fabric
