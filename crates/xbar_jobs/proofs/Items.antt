-- items of lists, by their places, and what is found
use Rattle.std.proofs.Common.{◌≡◌, ℕ, zero, suc, ◌<◌, List, [], ◌∷◌, length, slice_index_or, inl, inr, refl, arith, Option, Some, None, IfSome}
use Rattle.turns.specs.Among.{IsIn}

-- what is at a place of a list is one of its items
pub item_within : {A : Type 0} (items : List A) (at : ℕ) (item : A) → item ≡ slice_index_or items at item → at < length items → IsIn item items
item_within [] at item is below = absurd (omega arith)
item_within (first ∷ items) zero item is below = inl is
item_within (first ∷ items) (suc at) item is below = inr (item_within items at item is (omega arith))

-- what holds of each value that something may be holds of it, if it is one
pub if_found : {A : Type 0} (found : Option A) {Has : A → Type 0} → ((it : A) → found ≡ Some it → Has it) → IfSome found Has
if_found None has = tt
if_found (Some it) has = has it refl
