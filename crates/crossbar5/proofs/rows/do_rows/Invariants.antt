use Rattle.crossbar5.proofs.RunRows.{HasDone}
use Rattle.crossbar5.proofs.rows.do_rows.Given as goal

abbrev pub invariant-loop-index : goal.invariant-loop-index
invariant-loop-index g l = HasDone g.O.Observer.Describes l.fn.office l.fn.observer l.first l.rows l.office l.observer l.index
