use Rattle.std.proofs.Common.{arith, sym}
use Rattle.xbar_office.proofs.RemovedPlaces.{removed_at}
use Rattle.xbar_office.proofs.sets.index_of.Goals as goal

pub returns-in-Equal : goal.returns-in-Equal
returns-in-Equal c = (
  omega arith,
  removed_at c.args.paths.now c.args.path.now c.index-paths-at.result c.loop-at.at (omega arith) c.index-paths-at.is (sym c.in-Equal.ensures)
      c.loop-at.invariant,
)
