use Rattle.std.proofs.Common.{◌∙◌}
use Rattle.xbar_plan_text.{specs.Written.station_text, proofs.WrittenText.array_listed}
use Rattle.xbar_plan_text.proofs.write.numbers_value.Goals as goal

pub returns : goal.returns
returns c =
    c.from-2.ensures
    ∙ array_listed station_text c.loop-station.texts.items c.args.stations.now c.loop-station.station-index c.loop-station-test.false c.loop-station.invariant
