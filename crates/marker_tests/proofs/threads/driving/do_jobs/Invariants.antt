use Rattle.xbar_fabric.specs.Views.{IsDeskOf}
use Rattle.marker_tests.proofs.threads.driving.do_jobs.Given as goal

abbrev pub invariant-loop-job_no : goal.invariant-loop-job_no
invariant-loop-job_no l = IsDeskOf l.shift.desk l.fabric
