-- What an observer describes of an office.
use Rattle.std.specs.Prelude.{◌≡◌, ℕ, List, [], ◌∷◌, ◌++◌}
use Rattle.xbar_moves.specs.Exchange.{OfPlan}
use Rattle.xbar_walk.specs.Items.{Item}
use Rattle.xbar_walk.specs.Walks.{Walk}
use Rattle.xbar_walk.specs.declared.detail.Detail.{Detail}

-- for observers that describe such items, in a detail and with this number of the last step
module _ {O : Type 0} (Describes : O → Detail → ℕ → List Item → Type 0) where
  -- an office and an observer agree with a walk
  pub record AgreesWith (office : OfPlan) (observer : O) (w : Walk) : Type 0 where
    pub office_is : w.office ≡ office
    pub described : Describes observer w.detail w.number w.items

  -- an office and an observer change as this part of a walk does: if they agreed with a walk
  -- before, the next ones agree with the walk after this part
  abbrev pub ChangesAs : (Walk → Walk) → OfPlan → O → OfPlan → O → Type 0
  ChangesAs part office observer next observed =
      (w : Walk) → AgreesWith office observer w → AgreesWith next observed (part w)

  -- one more item is described, in the observer's detail
  abbrev pub Adds : (Detail → Item) → O → O → Type 0
  Adds item observer observed =
      (detail : Detail) (number : ℕ) (items : List Item) → Describes observer detail number items
      → Describes observed detail number (items ++ item detail ∷ [])
