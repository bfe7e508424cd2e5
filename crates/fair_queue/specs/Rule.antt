-- The rule of a queue, over the items that it holds and what each pass knows.
use Rattle.std.specs.Prelude.{◌≡◌, ℕ, List, [], ◌++◌, All, flat_map, sum_by}
use mathlib.Core.Option.{some}
use lib.ListN.{get_elem?}
use Rattle.fair_queue.specs.declared.rule.Hand.{Hand}
use Rattle.fair_queue.specs.Items.{SameItems}
use Rattle.fair_queue.specs.Parts.{all_parts}

-- a pass with these parts, with which these items were put and taken
abbrev pub hand : {X : Type 0} → ℕ → List X → List X → Hand X
hand parts put taken = record { parts = parts; put = put; taken = taken }

module _ {X : Type 0} where
  -- a pass with no part has put and taken nothing
  abbrev pub IdleIsEmpty : List (Hand X) → Type 0
  IdleIsEmpty views = (pass : ℕ) (v : Hand X) → get_elem? views pass ≡ some v → v.parts ≡ 0
      → (v.put ≡ []) × (v.taken ≡ [])

  -- the passes have all parts together; what was put is what was taken and what the queue holds,
  -- and each item there is sound
  pub record Balanced (sound : X → Type 0) (items : List X) (views : List (Hand X)) : Type 0 where
    pub parts : sum_by (λ (v : Hand X). v.parts) views ≡ all_parts
    pub balance : SameItems (flat_map (λ (v : Hand X). v.put) views)
        (flat_map (λ (v : Hand X). v.taken) views ++ items)
    pub idle : IdleIsEmpty views
    pub sound_items : All sound items

  -- these items are what was put and not taken, and each is sound
  pub record HoldsTheRest (sound : X → Type 0) (v : Hand X) (items : List X) : Type 0 where
    pub balance : SameItems v.put (v.taken ++ items)
    pub sound_items : All sound items

  -- what a pass with every part knows of a queue that holds these items
  abbrev pub Knows : (X → Type 0) → Hand X → List X → Type 0
  Knows sound v items = v.parts ≡ all_parts → HoldsTheRest sound v items
