use Rattle.std.proofs.Common.{◌∙◌}
use Rattle.xbar_plan_text.{specs.Written.route_text, proofs.WrittenText.array_listed}
use Rattle.xbar_plan_text.proofs.write.codes_value.Goals as goal

pub returns : goal.returns
returns c =
    c.from-2.ensures
    ∙ array_listed (route_text c.args.groups.now) c.loop-route.texts.items c.args.routes.now c.loop-route.route-index c.loop-route-test.false
    c.loop-route.invariant
