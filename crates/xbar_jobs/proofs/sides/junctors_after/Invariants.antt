use Rattle.xbar_jobs.proofs.JunctorsMade.{AreMade}
use Rattle.xbar_jobs.proofs.sides.junctors_after.Given as goal

abbrev pub invariant-loop-channel : goal.invariant-loop-channel
invariant-loop-channel l = AreMade l.effects l.frame l.channel l.fn.junctors l.words
