use Rattle.std.proofs.Common.{◌∙◌}
use Rattle.xbar_plan_text.{specs.Written.group_text, proofs.WrittenText.array_listed}
use Rattle.xbar_plan_text.proofs.write.groups_value.Goals as goal

pub returns : goal.returns
returns c =
    c.from-2.ensures
    ∙ array_listed group_text c.loop-group.texts.items c.args.groups.now c.loop-group.group-index c.loop-group-test.false c.loop-group.invariant
