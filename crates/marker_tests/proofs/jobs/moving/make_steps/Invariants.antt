use Rattle.xbar_jobs.specs.Standing.{IsValid}
use Rattle.marker_tests.proofs.jobs.moving.make_steps.Given as goal

abbrev pub invariant-loop-made : goal.invariant-loop-made
invariant-loop-made l = IsValid l.plan l.program.attempt
