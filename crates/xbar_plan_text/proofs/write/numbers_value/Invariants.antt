use Rattle.std.proofs.Common.{◌≡◌, map, take}
use Rattle.{toml.specs.{Data.string, View.view}, xbar_plan_text.specs.Written.station_text}
use Rattle.xbar_plan_text.proofs.write.numbers_value.Given as goal

abbrev pub invariant-loop-station : goal.invariant-loop-station
invariant-loop-station l = map view l.texts.items ≡ map (λ station. string (station_text station)) (take l.station-index l.stations)
