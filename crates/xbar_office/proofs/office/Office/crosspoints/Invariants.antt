use Rattle.std.proofs.Common.{◌≡◌, take}
use Rattle.xbar_office.specs.Closed.{closed}
use Rattle.xbar_office.proofs.office.Office.crosspoints.Given as goal

abbrev pub invariant-loop-path : goal.invariant-loop-path
invariant-loop-path l = l.all.items ≡ closed (take l.path-index l.path-items)
