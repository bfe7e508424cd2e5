use Rattle.std.proofs.Common.{◌≡◌, map, take}
use Rattle.xbar_plan_text.specs.Texts.{capped_route}
use Rattle.xbar_plan_text.proofs.read.codes.routes_of.Given as goal

abbrev pub invariant-loop-entry : goal.invariant-loop-entry
invariant-loop-entry l = l.routes.items ≡ map (capped_route l.groups) (take l.entry-index l.entries)
