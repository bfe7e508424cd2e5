use Rattle.std.proofs.Common.{◌≡◌, map, take}
use Rattle.{toml.specs.{Data.string, View.view}, xbar_plan_text.specs.Written.group_text}
use Rattle.xbar_plan_text.proofs.write.groups_value.Given as goal

abbrev pub invariant-loop-group : goal.invariant-loop-group
invariant-loop-group l = map view l.texts.items ≡ map (λ group. string (group_text group)) (take l.group-index l.groups)
