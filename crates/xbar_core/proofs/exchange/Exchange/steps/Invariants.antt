use Rattle.xbar_core.proofs.Loops.{AreLeft}
use Rattle.xbar_core.proofs.exchange.Exchange.steps.Given as goal

abbrev pub invariant-loop-left : goal.invariant-loop-left
invariant-loop-left l = AreLeft l.initial.self l.self l.marker l.count l.left

abbrev pub decreases-loop-left : goal.decreases-loop-left
decreases-loop-left l = l.left
