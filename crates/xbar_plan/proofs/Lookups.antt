use Rattle.std.proofs.Common.{◌≡◌, ℕ, zero, suc, ◌+◌, ◌<◌, Bool, true, false, cond, List, [], ◌∷◌, refl, sym, ◌∙◌, ap, arith, Option, Some, None, IsSomeAnd}
use Rattle.std.proofs.Common.{IfSome, slice_get, option_map, find, position, unwrap_or, count_by}
use Rattle.{std.proofs.lemmas.List.Sums.sum_by-cons, xbar_equip.{proofs.Lists.found_passes, specs.Among.IsIn}}
use Rattle.xbar_plan.proofs.Lists.{position-none, position-some}

-- the result of a look-up is that of an item that passes
pub found-item : {X Y : Type 0} (f : X → Y) (p : X → Bool) (xs : List X) (y : Y) → option_map f (find p xs) ≡ Some y
    → (x : X) × IsIn x xs × (p x ≡ true) × (f x ≡ y)
found-item {X} f p xs y e = of (find p xs) refl e where
  of : (o : Option X) → find p xs ≡ o → option_map f o ≡ Some y → (x : X) × IsIn x xs × (p x ≡ true) × (f x ≡ y)
  of None found given = cc
  of (Some x) found given = let h = found_passes p xs x found in (x, h.0, h.1, cc)

-- an item that passes counts as one
abbrev weight : Bool → ℕ
weight b = cond b 1 0

count-cons : {X : Type 0} (p : X → Bool) (x : X) (xs : List X) → count_by p (x ∷ xs) ≡ weight (p x) + count_by p xs
count-cons p x xs = sum_by-cons (λ y. weight (p y)) x xs

-- if no item passes, the count is 0
pub count-none : {X : Type 0} (p : X → Bool) (xs : List X) → ((i : ℕ) → IfSome (slice_get xs i) (λ x. p x ≡ false)) → count_by p xs ≡ 0
count-none p [] none = refl
count-none p (x ∷ xs) none =
    let here : weight (p x) ≡ 0 = ap weight (none zero) in
    let rest = count-none p xs (λ i. none (suc i)) in
    let whole = count-cons p x xs in
    omega (arith, here, rest, whole)

-- if an item passes, the count is not 0
pub count-some : {X : Type 0} (p : X → Bool) (xs : List X) (i : ℕ) (x : X) → slice_get xs i ≡ Some x → p x ≡ true → 0 < count_by p xs
count-some p [] i x e passes = cc
count-some p (a ∷ xs) zero x e passes =
    let same : a ≡ x = cc in
    let here : weight (p a) ≡ 1 = ap weight (ap p same ∙ passes) in
    let whole = count-cons p a xs in
    omega (arith, here, whole)
count-some p (a ∷ xs) (suc i) x e passes =
    let rest = count-some p xs i x e passes in
    let whole = count-cons p a xs in
    omega (arith, rest, whole)

-- if the count is 1, two items that pass are the same
pub count-one : {X : Type 0} (p : X → Bool) (xs : List X) (i j : ℕ) (x y : X) → count_by p xs ≡ 1 → slice_get xs i ≡ Some x → p x ≡ true
    → slice_get xs j ≡ Some y → p y ≡ true → i ≡ j
count-one p [] i j x y one e passes e' passes' = cc
count-one p (a ∷ xs) zero zero x y one e passes e' passes' = refl
count-one p (a ∷ xs) zero (suc j) x y one e passes e' passes' =
    let same : a ≡ x = cc in
    let here : weight (p a) ≡ 1 = ap weight (ap p same ∙ passes) in
    let rest = count-some p xs j y e' passes' in
    let whole = count-cons p a xs in
    absurd (omega (arith, here, rest, whole, one))
count-one p (a ∷ xs) (suc i) zero x y one e passes e' passes' =
    let same : a ≡ y = cc in
    let here : weight (p a) ≡ 1 = ap weight (ap p same ∙ passes') in
    let rest = count-some p xs i x e passes in
    let whole = count-cons p a xs in
    absurd (omega (arith, here, rest, whole, one))
count-one p (a ∷ xs) (suc i) (suc j) x y one e passes e' passes' =
    let whole = count-cons p a xs in
    let some = count-some p xs i x e passes in
    let rest : count_by p xs ≡ 1 = omega (arith, whole, some, one) in
    ap suc (count-one p xs i j x y rest e passes e' passes')

-- if exactly one item passes, it is at the position found
pub position-one : {X : Type 0} (p : X → Bool) (xs : List X) → count_by p xs ≡ 1
    → (x : X) × (slice_get xs (unwrap_or (position p xs) 0) ≡ Some x) × (p x ≡ true)
position-one {X} p xs one = of (position p xs) refl where
  at_some : (o : Option X) → IsSomeAnd o (λ x. p x ≡ true) → (x : X) × (o ≡ Some x) × (p x ≡ true)
  at_some None h = absurd h
  at_some (Some x) h = (x, refl, h)

  of : (o : Option ℕ) → position p xs ≡ o → (x : X) × (slice_get xs (unwrap_or o 0) ≡ Some x) × (p x ≡ true)
  of None e =
      let none = count-none p xs (position-none p xs e) in
      let both : 0 ≡ 1 = sym none ∙ one in
      absurd (omega (arith, both))
  of (Some i) e = at_some (slice_get xs i) (position-some p i xs e)
