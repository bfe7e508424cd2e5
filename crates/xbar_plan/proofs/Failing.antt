use Rattle.std.proofs.Common.{◌≡◌, ℕ, zero, suc, Bool, true, false, List, [], ◌∷◌, refl, ap, ◌∙◌, None, Some, IfSome, IsSomeAnd, position, slice_get, not, ◌&&◌}
use Rattle.{std.specs.List.list_all, xbar_plan.proofs.Lists.{position-none, position-some}}

passes : (b : Bool) → not b ≡ false → b ≡ true
passes true e = refl
passes false e = cc

fails : (b : Bool) → not b ≡ true → b ≡ false
fails true e = cc
fails false e = refl

-- if no item that fails is found, all pass
pub none_fails : {X : Type 0} (p : X → Bool) (xs : List X) → position (λ x. not (p x)) xs ≡ None → list_all p xs ≡ true
none_fails {X} p xs e = all xs (position-none (λ x. not (p x)) xs e) where
  all : (ys : List X) → ((i : ℕ) → IfSome (slice_get ys i) (λ y. not (p y) ≡ false)) → list_all p ys ≡ true
  all [] each = refl
  all (y ∷ ys) each = ap (λ (b : Bool). b && list_all p ys) (passes (p y) (each zero)) ∙ all ys (λ i. each (suc i))

-- if one is found, not all pass
pub one_fails : {X : Type 0} (p : X → Bool) (xs : List X) (i : ℕ) → position (λ x. not (p x)) xs ≡ Some i → list_all p xs ≡ false
one_fails {X} p xs i e = at xs i (position-some (λ x. not (p x)) i xs e) where
  at : (ys : List X) (j : ℕ) → IsSomeAnd (slice_get ys j) (λ y. not (p y) ≡ true) → list_all p ys ≡ false
  at [] j there = absurd there
  at (y ∷ ys) zero there = ap (λ (b : Bool). b && list_all p ys) (fails (p y) there)
  at (y ∷ ys) (suc j) there = ap (λ (b : Bool). p y && b) (at ys j there) ∙ false_last (p y) where
    false_last : (b : Bool) → (b && false) ≡ false
    false_last true = refl
    false_last false = refl
