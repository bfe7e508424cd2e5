use Rattle.std.proofs.Common.{◌∙◌, ap, sym, arith, List}
use Rattle.{std.proofs.lemmas.List.at_drop_all, turns.specs.{Operations.applied, declared.operation.Operation.Operation}}
use Rattle.xbar_jobs.{specs.{Closing.value_after, declared.effect.Effect.Effect}, proofs.{Items.item_within, MadeWords.next_made}}
use Rattle.xbar_jobs.proofs.effect.made.Goals.{then-eq, else-eq}
use Rattle.xbar_jobs.proofs.effect.made.Goals as goal

pub word-requires : goal.word-requires
word-requires c = c.requires _ (item_within c.args.effects.now c.loop-effect.effect-index _ c.effect-item.is c.loop-effect-test.true)

pub operation-requires : goal.operation-requires
operation-requires c = c.requires _ (item_within c.args.effects.now c.loop-effect.effect-index _ c.effect-item.is c.loop-effect-test.true)

pub loop-effect-preserved : goal.loop-effect-preserved
loop-effect-preserved c = elim c.if-eq.branch [
  | then-eq w ↦ next_made c.args.effects.now c.loop-effect.effect-index _ c.args.word _ _ _ _ c.effect-item.is c.loop-effect-test.true c.word.ensures
      (sym w.if-eq.true ∙ c.eq.ensures) (w.value-is ∙ w.apply-value.ensures ∙ ap (λ (op : Operation). applied op c.loop-effect.value) w.operation.ensures)
      ∙ c.loop-effect.invariant
  | else-eq w ↦ next_made c.args.effects.now c.loop-effect.effect-index _ c.args.word _ _ _ _ c.effect-item.is c.loop-effect-test.true c.word.ensures
      (sym w.if-eq.false ∙ c.eq.ensures) w.value-is ∙ c.loop-effect.invariant
]

pub returns : goal.returns
returns c =
    sym (at_drop_all (λ (effects : List Effect). value_after effects c.args.word c.loop-effect.value) c.args.effects.now c.loop-effect.effect-index
    (omega (arith, c.loop-effect-test.false))) ∙ c.loop-effect.invariant
