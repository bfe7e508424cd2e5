use Rattle.xbar_equip.{specs.Ten.is_trunk_place, proofs.{Lists.all_taken, Ranges.places_in_range}}
use Rattle.xbar_equip.proofs.laws.places_are_in_range.Goals as goal

pub returns-clause-each : goal.returns-clause-each
returns-clause-each c =
    places_in_range c.args.places.now (all_taken is_trunk_place c.args.places.now c.loop-place.place-index c.loop-place-test.false c.loop-place.invariant)
