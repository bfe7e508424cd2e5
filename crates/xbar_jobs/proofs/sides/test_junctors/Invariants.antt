use Rattle.xbar_jobs.proofs.JunctorTests.{HasRead}
use Rattle.xbar_jobs.proofs.sides.test_junctors.Given as goal

abbrev pub invariant-loop-channel : goal.invariant-loop-channel
invariant-loop-channel l = HasRead l.made l.frame l.initial.seen l.words l.channel l.row l.seen l.words
