use Rattle.std.proofs.Common.{◌≡◌, true, take, nat_lt}
use Rattle.{std.specs.List.list_all, xbar_equip.specs.Len.is_line}
use Rattle.xbar_plan.proofs.lawful.forms.state_station_ranges.Given as goal

abbrev pub invariant-loop-station : goal.invariant-loop-station
invariant-loop-station l = record {
  numbers : list_all (λ station. nat_lt station.number 10000) (take l.station-index l.stations) ≡ true;
  lines : list_all (λ station. list_all is_line station.lines) (take l.station-index l.stations) ≡ true;
}
