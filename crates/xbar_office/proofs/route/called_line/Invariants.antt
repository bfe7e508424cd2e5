use Rattle.std.proofs.Common.{◌≡◌, drop}
use Rattle.xbar_office.specs.Trunks.{called_line}
use Rattle.xbar_office.proofs.route.called_line.Given as goal

abbrev pub invariant-loop-line : goal.invariant-loop-line
invariant-loop-line l = called_line l.paths l.calling l.lines ≡ called_line l.paths l.calling (drop l.line-index l.lines)
