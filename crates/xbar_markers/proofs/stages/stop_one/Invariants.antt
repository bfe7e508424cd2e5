use Rattle.xbar_markers.specs.Shares.{HasStopped}
use Rattle.xbar_markers.proofs.stages.stop_one.Given as goal

abbrev pub invariant-loop : goal.invariant-loop
invariant-loop g l = HasStopped l.fn.whole l.whole
