use Rattle.std.proofs.Common.{rules, ◌≡◌, [], ◌∷◌, ◌++◌, sym, ◌∙◌, ap, Some}
use Rattle.xbar_plan_text.{specs.Texts.code_entry_of, proofs.FirstItem.{one_more, refused}}
use Rattle.xbar_plan.specs.declared.table_fault.PlanList.TheVariants as PlanList
use Rattle.xbar_plan_text.proofs.read.codes.read_entries.Goals as goal

pub returns-in-Err : goal.returns-in-Err
returns-in-Err c =
    refused PlanList.Codes code_entry_of c.args.texts.now c.loop-item.item _ _ c.loop-item-test.true c.loop-item.invariant c.refusal.result c.refusal.ensures.item
    c.in-Err.error c.in-Err.ensures c.refusal.ensures.memory

pub loop-item-preserved : goal.loop-item-preserved
loop-item-preserved c =
    let kept : c.push.new.self.items ≡ c.loop-item.entries.items ++ c.in-Ok.entry ∷ [] = search rules in
    one_more PlanList.Codes code_entry_of c.args.texts.now c.loop-item.item _ _ c.loop-item-test.true c.loop-item.invariant c.in-Ok.entry c.in-Ok.ensures
    ∙ ap (λ z. Some z) (sym kept)
