use Rattle.std.proofs.Common.{◌≡◌, drop, find}
use Rattle.xbar_office_drawing.specs.Names.{is_number_of}
use Rattle.xbar_office_drawing.proofs.names.first_number.Given as goal

abbrev pub invariant-loop-station : goal.invariant-loop-station
invariant-loop-station l = find (is_number_of l.line) l.plan.stations ≡ find (is_number_of l.line) (drop l.station-index l.stations)
