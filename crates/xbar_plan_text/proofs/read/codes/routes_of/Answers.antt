use Rattle.std.proofs.Common.{map, ◌∙◌, ap, take_all}
use Rattle.xbar_plan_text.specs.Texts.{capped_route}
use Rattle.xbar_plan_text.proofs.read.codes.routes_of.Goals as goal

pub returns : goal.returns
returns c =
    c.loop-entry.invariant ∙ ap (map (capped_route c.args.groups.now)) (take_all c.loop-entry.entry-index c.args.entries.now c.loop-entry-test.false)
