use Rattle.std.proofs.Common.{rules, ◌≡◌, [], ◌∷◌, ◌++◌, sym, ◌∙◌, ap, Some}
use Rattle.xbar_plan_text.{specs.Texts.fault_of, proofs.FirstItem.{one_more, refused_here}}
use Rattle.xbar_plan.specs.declared.table_fault.PlanList.TheVariants as PlanList
use Rattle.xbar_plan_text.proofs.read.faults.read_faults.Goals as goal

pub returns-in_default : goal.returns-in_default
returns-in_default c =
    refused_here PlanList.Faults fault_of c.args.texts.now c.loop-item.item _ _ c.loop-item-test.true c.loop-item.invariant c.refusal.result
    c.refusal.ensures.item (sym c.read_link.ensures ∙ c.in_default.is)

pub loop-item-preserved : goal.loop-item-preserved
loop-item-preserved c =
    let kept : c.push.new.self.items ≡ c.loop-item.links.items ++ c.in-Some.link ∷ [] = search rules in
    one_more PlanList.Faults fault_of c.args.texts.now c.loop-item.item _ _ c.loop-item-test.true c.loop-item.invariant c.in-Some.link
    (sym c.read_link.ensures ∙ c.in-Some.is) ∙ ap (λ z. Some z) (sym kept)
