use Rattle.xbar_walk.proofs.Settlings.{HaveDone}
use Rattle.xbar_walk.proofs.settling.each.Given as goal

abbrev pub invariant-loop-marker : goal.invariant-loop-marker
invariant-loop-marker g l = HaveDone g.O.Observer.Describes l.part l.initial.office l.initial.observer l.office l.observer l.marker
