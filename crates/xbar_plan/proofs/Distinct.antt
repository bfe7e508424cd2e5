use Rattle.std.proofs.Common.{◌≡◌, ℕ, zero, suc, Bool, true, false, List, [], ◌∷◌, ◌++◌, inl, inr, refl, sym, ◌∙◌, ap, subst, Some, slice_get, flat_map, not}
use Rattle.std.proofs.Common.{◌||◌}
use Rattle.{std.{specs.List.{list_any, list_all}, proofs.lemmas.List.Folds.list_any-append}, xbar_equip.{specs.Among.IsIn, proofs.Logic.{both, both_hold}}}
use Rattle.{xbar_equip.proofs.{Logic.not_both, Lists.{in_back, in_flat_map, item_in, each_passes, any_passes}}, xbar_plan.specs.Lawful.are_distinct}

-- what all items pass each passes
pub item_passes : {X : Type 0} (p : X → Bool) (xs : List X) (i : ℕ) (x : X) → list_all p xs ≡ true → slice_get xs i ≡ Some x → p x ≡ true
item_passes p xs i x all here = each_passes p xs x all (item_in xs i x here)

same_some : {X : Type 0} (a b : X) → Some a ≡ Some b → a ≡ b
same_some a b e = cc

-- what f gives for the item at an index is among what it gives for all
pub at_flat_map : {X Y : Type 0} (f : X → List Y) (xs : List X) (i : ℕ) (x : X) (y : Y) → slice_get xs i ≡ Some x → IsIn y (f x) → IsIn y (flat_map f xs)
at_flat_map f xs i x y here own = in_flat_map f xs x y (item_in xs i x here) own

module _ {X : Type 0} (same : X → X → Bool) (itself : (x : X) → same x x ≡ true) where
  -- if the items of two lists are distinct, so are those of each
  pub distinct-left : (xs ys : List X) → are_distinct same (xs ++ ys) ≡ true → are_distinct same xs ≡ true
  distinct-left [] ys e = refl
  distinct-left (x ∷ xs) ys e =
      let h = both (not (list_any (λ other. same other x) (xs ++ ys))) (are_distinct same (xs ++ ys)) e in
      both_hold (not (list_any (λ other. same other x) xs)) (are_distinct same xs)
      (fewer (list_any (λ other. same other x) xs) (list_any (λ other. same other x) ys)
      (ap not (sym (list_any-append (λ other. same other x) xs ys)) ∙ h.0)) (distinct-left xs ys h.1) where
        fewer : (a b : Bool) → not (a || b) ≡ true → not a ≡ true
        fewer true b e = e
        fewer false b e = refl

  pub distinct-right : (xs ys : List X) → are_distinct same (xs ++ ys) ≡ true → are_distinct same ys ≡ true
  distinct-right [] ys e = e
  distinct-right (x ∷ xs) ys e =
      distinct-right xs ys (both (not (list_any (λ other. same other x) (xs ++ ys))) (are_distinct same (xs ++ ys)) e).1

  -- the first of distinct items is not among the others
  pub not_again : (x : X) (xs : List X) → are_distinct same (x ∷ xs) ≡ true → IsIn x xs → ⊥
  not_again x xs e h =
      not_both (list_any (λ other. same other x) xs) (both (not (list_any (λ other. same other x) xs)) (are_distinct same xs) e).0
      (any_passes (λ other. same other x) xs x h (itself x))

  -- and none is in both
  pub distinct-apart : (x : X) (xs ys : List X) → are_distinct same (xs ++ ys) ≡ true → IsIn x xs → IsIn x ys → ⊥
  distinct-apart x [] ys e h k = absurd h
  distinct-apart x (a ∷ xs) ys e (inl is) k =
      not_again a (xs ++ ys) e (subst (λ (z : X). IsIn z (xs ++ ys)) is (in_back x xs ys k))
  distinct-apart x (a ∷ xs) ys e (inr h) k =
      distinct-apart x xs ys (both (not (list_any (λ other. same other a) (xs ++ ys))) (are_distinct same (xs ++ ys)) e).1 h k

  -- what f gives for one item is distinct if what it gives for all is
  pub distinct-at : {A : Type 0} (f : A → List X) (items : List A) (i : ℕ) (a : A) → are_distinct same (flat_map f items) ≡ true → slice_get items i ≡ Some a
      → are_distinct same (f a) ≡ true
  distinct-at f [] i a e at = cc
  distinct-at f (b ∷ items) zero a e at =
      subst (λ (z : _). are_distinct same (f z) ≡ true) (same_some b a at) (distinct-left (f b) (flat_map f items) e)
  distinct-at f (b ∷ items) (suc i) a e at = distinct-at f items i a (distinct-right (f b) (flat_map f items) e) at

  -- two items for which f gives the same thing are the same item
  pub one_giver : {A : Type 0} (f : A → List X) (items : List A) (i j : ℕ) (a b : A) (x : X) → are_distinct same (flat_map f items) ≡ true
      → slice_get items i ≡ Some a → slice_get items j ≡ Some b → IsIn x (f a) → IsIn x (f b) → i ≡ j
  one_giver f [] i j a b x e at bt h k = cc
  one_giver f (c ∷ items) zero zero a b x e at bt h k = refl
  one_giver f (c ∷ items) zero (suc j) a b x e at bt h k =
      absurd (distinct-apart x (f c) (flat_map f items) e (subst (λ (z : _). IsIn x (f z)) (sym (same_some c a at)) h) (at_flat_map f items j b x bt k))
  one_giver f (c ∷ items) (suc i) zero a b x e at bt h k =
      absurd (distinct-apart x (f c) (flat_map f items) e (subst (λ (z : _). IsIn x (f z)) (sym (same_some c b bt)) k) (at_flat_map f items i a x at h))
  one_giver f (c ∷ items) (suc i) (suc j) a b x e at bt h k =
      ap suc (one_giver f items i j a b x (distinct-right (f c) (flat_map f items) e) at bt h k)
