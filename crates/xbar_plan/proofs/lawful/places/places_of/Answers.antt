use Rattle.std.proofs.Common.{◌∙◌, ap, take_all}
use Rattle.xbar_plan.specs.Lawful.{all_places}
use Rattle.xbar_plan.proofs.lawful.places.places_of.Goals as goal

pub returns : goal.returns
returns c =
    c.loop-group.invariant ∙ ap all_places (take_all c.loop-group.group-index c.args.groups.now c.loop-group-test.false)
