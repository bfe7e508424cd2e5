use Rattle.std.proofs.Common.{◌≡◌, ℕ, zero, suc, ◌+◌, Bool, true, false, cond, ◌⊎◌, List, [], ◌∷◌, map, inl, inr, refl, sym, ◌∙◌, ap, subst, arith, Option}
use Rattle.std.proofs.Common.{Some, None, IfSome, IsSomeAnd, slice_get, position, ◌||◌}
use Rattle.std.{specs.List.{list_any, position_from}, proofs.lemmas.Iterator.Adapters.position_from-zero}

-- a test of the items that f gives
pub list_any_map : {X Y : Type 0} (p : Y → Bool) (f : X → Y) (xs : List X) → list_any p (map f xs) ≡ list_any (λ x. p (f x)) xs
list_any_map p f [] = refl
list_any_map p f (x ∷ xs) = ap (λ rest. p (f x) || rest) (list_any_map p f xs)

chosen_none : (b : Bool) (k : ℕ) (o : Option ℕ) → cond b (Some k) o ≡ None → (b ≡ false) × (o ≡ None)
chosen_none true k o e = cc
chosen_none false k o e = (refl, e)

chosen_some : (b : Bool) (k j : ℕ) (o : Option ℕ) → cond b (Some k) o ≡ Some j → ((b ≡ true) × (j ≡ k)) ⊎ ((b ≡ false) × (o ≡ Some j))
chosen_some true k j o e = inl (refl, cc)
chosen_some false k j o e = inr (refl, e)

none_from : {X : Type 0} (p : X → Bool) (k : ℕ) (xs : List X) → position_from p k xs ≡ None → (i : ℕ) → IfSome (slice_get xs i) (λ x. p x ≡ false)
none_from p k [] e i = tt
none_from p k (x ∷ xs) e zero = (chosen_none (p x) k (position_from p (k + 1) xs) e).0
none_from p k (x ∷ xs) e (suc i) = none_from p (k + 1) xs (chosen_none (p x) k (position_from p (k + 1) xs) e).1 i

-- if no position is found, no item passes
pub position-none : {X : Type 0} (p : X → Bool) (xs : List X) → position p xs ≡ None → (i : ℕ) → IfSome (slice_get xs i) (λ x. p x ≡ false)
position-none p xs e = none_from p 0 xs (sym (position_from-zero p xs) ∙ e)

some_from : {X : Type 0} (p : X → Bool) (k j : ℕ) (xs : List X) → position_from p k xs ≡ Some j
    → (i : ℕ) × (j ≡ k + i) × IsSomeAnd (slice_get xs i) (λ x. p x ≡ true)
some_from p k j [] e = cc
some_from p k j (x ∷ xs) e = elim (chosen_some (p x) k j (position_from p (k + 1) xs) e) [
  | inl here ↦ (0, omega (arith, here.1), here.0)
  | inr there ↦ let rest = some_from p (k + 1) j xs there.1 in (suc rest.0, omega (arith, rest.1), rest.2)
]

-- the item at the position that is found passes
pub position-some : {X : Type 0} (p : X → Bool) (j : ℕ) (xs : List X) → position p xs ≡ Some j → IsSomeAnd (slice_get xs j) (λ x. p x ≡ true)
position-some p j xs e =
    let found = some_from p 0 j xs (sym (position_from-zero p xs) ∙ e) in
    let same : found.0 ≡ j = omega (arith, found.1) in
    subst (λ (i : ℕ). IsSomeAnd (slice_get xs i) (λ x. p x ≡ true)) same found.2
