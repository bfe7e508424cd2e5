-- what an observer describes while an office changes
use Rattle.std.proofs.Common.{◌≡◌, ℕ, List, sym, subst}
use Rattle.{xbar_moves.specs.Exchange.OfPlan, xbar_walk.specs.{Items.Item, Observers.{AgreesWith, ChangesAs}, Walks.Walk, declared.detail.Detail.Detail}}

module _ {O : Type 0} (Describes : O → Detail → ℕ → List Item → Type 0) where
  -- a part with the same effect on the walks of this office may take another's place
  pub changes_same : (office next : OfPlan) (observer observed : O) (part other : Walk → Walk) → ((w : Walk) → w.office ≡ office → other w ≡ part w)
      → ChangesAs Describes other office observer next observed → ChangesAs Describes part office observer next observed
  changes_same office next observer observed part other same changes w agrees =
      subst (AgreesWith Describes next observed) (same w agrees.office_is) (changes w agrees)

  -- a part with no effect on them
  pub stays_same : (office : OfPlan) (observer : O) (part : Walk → Walk) → ((w : Walk) → w.office ≡ office → part w ≡ w)
      → ChangesAs Describes part office observer office observer
  stays_same office observer part same w agrees = subst (AgreesWith Describes office observer) (sym (same w agrees.office_is)) agrees
