use Rattle.std.proofs.Common.{◌≡◌, map, take}
use Rattle.{toml.specs.{Data.string, View.view}, xbar_equip.specs.Link.link_text}
use Rattle.xbar_plan_text.proofs.write.faults_value.Given as goal

abbrev pub invariant-loop-link : goal.invariant-loop-link
invariant-loop-link l = map view l.texts.items ≡ map (λ link. string (link_text link)) (take l.link-index l.faults)
