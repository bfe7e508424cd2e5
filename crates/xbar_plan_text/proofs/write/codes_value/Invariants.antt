use Rattle.std.proofs.Common.{◌≡◌, map, take}
use Rattle.{toml.specs.{Data.string, View.view}, xbar_plan_text.specs.Written.route_text}
use Rattle.xbar_plan_text.proofs.write.codes_value.Given as goal

abbrev pub invariant-loop-route : goal.invariant-loop-route
invariant-loop-route l = map view l.texts.items ≡ map (λ route. string (route_text l.groups route)) (take l.route-index l.routes)
