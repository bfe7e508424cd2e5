-- facts on the items of lists, for the proofs of every crate
use Rattle.std.proofs.Common.{◌≡◌, ℕ, zero, suc, ◌+◌, ◌<◌, ◌≤◌, ◌⊎◌, Bool, true, false, cond, List, [], ◌∷◌, ◌++◌, length, take, get_or, inl, inr, refl, sym}
use Rattle.std.proofs.Common.{◌∙◌, ap, subst, Some, find, slice_get, flat_map, take_all}
use Rattle.{std.{specs.List.{list_any, list_all}, proofs.lemmas.List.Folds.list_all_more}, xbar_equip.specs.Among.IsIn}
use Rattle.xbar_equip.proofs.Logic.{both, both_hold, either, either_holds}

-- an item of the first list, or of the second, is one of both together
pub in_front : {A : Type 0} (x : A) (xs ys : List A) → IsIn x xs → IsIn x (xs ++ ys)
in_front x [] ys within = absurd within
in_front x (y ∷ xs) ys (inl e) = inl e
in_front x (y ∷ xs) ys (inr later) = inr (in_front x xs ys later)

pub in_back : {A : Type 0} (x : A) (xs ys : List A) → IsIn x ys → IsIn x (xs ++ ys)
in_back x [] ys within = within
in_back x (y ∷ xs) ys within = inr (in_back x xs ys within)

-- an item of both together is one of the first or of the second
pub in_either : {A : Type 0} (x : A) (xs ys : List A) → IsIn x (xs ++ ys) → IsIn x xs ⊎ IsIn x ys
in_either x [] ys within = inr within
in_either x (y ∷ xs) ys (inl e) = inl (inl e)
in_either x (y ∷ xs) ys (inr later) = elim (in_either x xs ys later) [ inl front ↦ inl (inr front) | inr back ↦ inr back ]

-- what holds of each item and of one more at the end holds of each of them all
pub each_more : {A : Type 0} (P : A → Type 0) (xs : List A) (last : A) → ((x : A) → IsIn x xs → P x) → P last → (x : A) → IsIn x (xs ++ last ∷ []) → P x
each_more P xs last before here x within = elim (in_either x xs (last ∷ []) within) [
  | inl front ↦ before x front
  | inr back ↦ elim back [ inl e ↦ subst P (sym e) here | inr none ↦ absurd none ]
]

-- an item at some index is one of the items
pub item_in : {A : Type 0} (xs : List A) (i : ℕ) (x : A) → slice_get xs i ≡ Some x → IsIn x xs
item_in [] i x e = cc
item_in (y ∷ xs) zero x e = let same : x ≡ y = cc in inl same
item_in (y ∷ xs) (suc i) x e = inr (item_in xs i x e)

-- what f gives for one item is among what it gives for all
pub in_flat_map : {A B : Type 0} (f : A → List B) (xs : List A) (x : A) (y : B) → IsIn x xs → IsIn y (f x) → IsIn y (flat_map f xs)
in_flat_map f [] x y within own = absurd within
in_flat_map {A} f (a ∷ xs) x y (inl e) own = in_front y (f a) (flat_map f xs) (subst (λ (z : A). IsIn y (f z)) e own)
in_flat_map f (a ∷ xs) x y (inr later) own = in_back y (f a) (flat_map f xs) (in_flat_map f xs x y later own)

-- each item passes what all pass, and all pass what each does
pub each_passes : {A : Type 0} (p : A → Bool) (xs : List A) (x : A) → list_all p xs ≡ true → IsIn x xs → p x ≡ true
each_passes p [] x all within = absurd within
each_passes p (y ∷ xs) x all (inl e) = ap p e ∙ (both (p y) (list_all p xs) all).0
each_passes p (y ∷ xs) x all (inr later) = each_passes p xs x (both (p y) (list_all p xs) all).1 later

pub all_pass : {A : Type 0} (p : A → Bool) (xs : List A) → ((x : A) → IsIn x xs → p x ≡ true) → list_all p xs ≡ true
all_pass p [] each = refl
all_pass p (x ∷ xs) each = both_hold (p x) (list_all p xs) (each x (inl refl)) (all_pass p xs (λ y within. each y (inr within)))

-- one more item passes
pub all_more : {A : Type 0} (p : A → Bool) (xs : List A) (i : ℕ) (x : A) → i < length xs → x ≡ get_or xs i x → p x ≡ true → list_all p (take i xs) ≡ true
    → list_all p (take (i + 1) xs) ≡ true
all_more p xs i x within read passes before =
    list_all_more p xs i x within ∙ both_hold (list_all p (take i xs)) (p (get_or xs i x)) before (ap p (sym read) ∙ passes)

-- if the items up to the end pass, all do
pub all_taken : {A : Type 0} (p : A → Bool) (xs : List A) (i : ℕ) → length xs ≤ i → list_all p (take i xs) ≡ true → list_all p xs ≡ true
all_taken p xs i past all = ap (list_all p) (sym (take_all i xs past)) ∙ all

-- if one item passes, some item passes
pub any_passes : {A : Type 0} (p : A → Bool) (xs : List A) (x : A) → IsIn x xs → p x ≡ true → list_any p xs ≡ true
any_passes p [] x within passes = absurd within
any_passes p (y ∷ xs) x (inl e) passes = either_holds (p y) (list_any p xs) (inl (ap p (sym e) ∙ passes))
any_passes p (y ∷ xs) x (inr later) passes = either_holds (p y) (list_any p xs) (inr (any_passes p xs x later passes))

-- if only x passes the test and some item passes, x is one of the items
pub any_is_in : {A : Type 0} (p : A → Bool) (x : A) → ((y : A) → p y ≡ true → y ≡ x) → (xs : List A) → list_any p xs ≡ true → IsIn x xs
any_is_in p x only [] some = cc
any_is_in p x only (y ∷ xs) some = elim (either (p y) (list_any p xs) some) [
  | inl here ↦ inl (sym (only y here))
  | inr there ↦ inr (any_is_in p x only xs there)
]

-- what a search finds is one of the items, and passes
pub found_passes : {A : Type 0} (p : A → Bool) (xs : List A) (x : A) → find p xs ≡ Some x → IsIn x xs × (p x ≡ true)
found_passes p [] x e = cc
found_passes {A} p (y ∷ xs) x e = of (p y) refl (found_passes p xs x) e where
  of : (b : Bool) → p y ≡ b → (find p xs ≡ Some x → IsIn x xs × (p x ≡ true)) → cond b (Some y) (find p xs) ≡ Some x → IsIn x (y ∷ xs) × (p x ≡ true)
  of true here rest found = let same : x ≡ y = cc in (inl same, ap p same ∙ here)
  of false here rest found = let later = rest found in (inr later.0, later.1)
