use Rattle.std.proofs.Common.{◌∙◌}
use Rattle.{xbar_equip.specs.Link.link_text, xbar_plan_text.proofs.WrittenText.array_listed}
use Rattle.xbar_plan_text.proofs.write.faults_value.Goals as goal

pub returns : goal.returns
returns c =
    c.from-2.ensures ∙ array_listed link_text c.loop-link.texts.items c.args.faults.now c.loop-link.link-index c.loop-link-test.false c.loop-link.invariant
