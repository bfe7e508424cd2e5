use Rattle.std.proofs.Common.{◌-◌}
use Rattle.xbar_jobs.specs.Running.{RunsOut}
use Rattle.xbar_jobs.proofs.program.Program.close.Given as goal

abbrev pub invariant-loop-made : goal.invariant-loop-made
invariant-loop-made l = RunsOut l.plan l.marker l.most l.made l.initial.self l.initial.words l.self l.words

abbrev pub decreases-loop-made : goal.decreases-loop-made
decreases-loop-made l = l.most - l.made
