-- Lists with the same items: what that says of lengths, tests, appends and permutations.
use Rattle.std.proofs.Common.{◌≡◌, ◌&&◌, ℕ, ◌<◌, List, [], ◌∷◌, ◌++◌, Bool, true, false, nat_eq, sym, refl, ap, ◌∙◌, subst, arith, sum_by, length, flat_map}
use Rattle.std.proofs.Common.{map, cond, eqb-true, eq-eqb, true≢false, lt_irrefl, IsPermutation}
use Rattle.std.{specs.Cmp.Derive.both_true, proofs.lemmas.List.{Sums.{sum_by-cons, sum_by-append}, Sorted.{IsPermutation-refl, IsPermutation-sym}}}
use Rattle.{std.proofs.lemmas.List.Sorted.{IsPermutation-trans, IsPermutation-cons, IsPermutation-middle}, fair_queue.specs.Items.SameItems}
use base.Stored.{Gv, gnil, gnum, gcons, Coded}

module _ {X : Type 0} where
  -- the weight of lists that are appended one after another
  pub sum_by-flat_map : {V : Type 0} (h : X → ℕ) (f : V → List X) (vs : List V)
      → sum_by h (flat_map f vs) ≡ sum_by (λ (v : V). sum_by h (f v)) vs
  sum_by-flat_map h f [] = refl
  sum_by-flat_map {V} h f (v ∷ vs) =
      let rest = sum_by-flat_map h f vs in
      omega (arith, sum_by-append h (f v) (flat_map f vs), sum_by-cons (λ (w : V). sum_by h (f w)) v vs)

  pub SameItems-cancel : (xs ys us vs : List X) → SameItems (xs ++ us) (ys ++ vs) → SameItems us vs
      → SameItems xs ys
  SameItems-cancel xs ys us vs both other h =
      let p = both h in
      let q = other h in
      omega (arith, sum_by-append h xs us, sum_by-append h ys vs)

  -- each of them weighing 1, lists weigh their lengths
  count_is : (xs : List X) → sum_by (λ (x : X). 1) xs ≡ length xs
  count_is [] = refl
  count_is (x ∷ xs) = let rest = count_is xs in omega (arith, sum_by-cons (λ (y : X). 1) x xs)

  pub SameItems-length : (xs ys : List X) → SameItems xs ys → length xs ≡ length ys
  SameItems-length xs ys same = sym (count_is xs) ∙ (same (λ x. 1) ∙ count_is ys)

module _ {X Y : Type 0} where
  -- what images weigh
  sum_by-map : (h : Y → ℕ) (f : X → Y) (xs : List X)
      → sum_by h (map f xs) ≡ sum_by (λ (x : X). h (f x)) xs
  sum_by-map h f [] = refl
  sum_by-map h f (x ∷ xs) =
      let rest = sum_by-map h f xs in
      omega (arith, sum_by-cons h (f x) (map f xs), sum_by-cons (λ (z : X). h (f z)) x xs)

  pub SameItems-map : (f : X → Y) (xs ys : List X) → SameItems xs ys
      → SameItems (map f xs) (map f ys)
  SameItems-map f xs ys same h =
      sum_by-map h f xs ∙ (same (λ x. h (f x)) ∙ sym (sum_by-map h f ys))

  pub SameItems-flat_map : (f : X → List Y) (xs ys : List X) → SameItems xs ys
      → SameItems (flat_map f xs) (flat_map f ys)
  SameItems-flat_map f xs ys same h =
      sum_by-flat_map h f xs ∙ (same (λ x. sum_by h (f x)) ∙ sym (sum_by-flat_map h f ys))

-- ghost values are trees of numbers, so whether two are equal can be decided
abbrev same_value : Gv → Gv → Bool
same_value gnil gnil = true
same_value gnil (gnum n) = false
same_value gnil (gcons c d) = false
same_value (gnum m) gnil = false
same_value (gnum m) (gnum n) = nat_eq m n
same_value (gnum m) (gcons c d) = false
same_value (gcons a b) gnil = false
same_value (gcons a b) (gnum n) = false
same_value (gcons a b) (gcons c d) = same_value a c && same_value b d

same_value-refl : (a : Gv) → same_value a a ≡ true
same_value-refl gnil = refl
same_value-refl (gnum n) = eq-eqb n n refl
same_value-refl (gcons a b) = both_true (same_value-refl a) (same_value-refl b)

left_true : (s t : Bool) → s && t ≡ true → s ≡ true
left_true true t both = refl
left_true false t both = both

right_true : (s t : Bool) → s && t ≡ true → t ≡ true
right_true true t both = both
right_true false t both = absurd (true≢false (sym both))

same_value-true : (a b : Gv) → same_value a b ≡ true → a ≡ b
same_value-true gnil gnil same = refl
same_value-true gnil (gnum n) same = absurd (true≢false (sym same))
same_value-true gnil (gcons c d) same = absurd (true≢false (sym same))
same_value-true (gnum m) gnil same = absurd (true≢false (sym same))
same_value-true (gnum m) (gnum n) same = ap gnum (eqb-true m n same)
same_value-true (gnum m) (gcons c d) same = absurd (true≢false (sym same))
same_value-true (gcons a b) gnil same = absurd (true≢false (sym same))
same_value-true (gcons a b) (gnum n) same = absurd (true≢false (sym same))
same_value-true (gcons a b) (gcons c d) same =
    let left = same_value-true a c (left_true (same_value a c) (same_value b d) same) in
    let right = same_value-true b d (right_true (same_value a c) (same_value b d) same) in
    λ i. gcons (left i) (right i)

-- items are distinguished by their codes, so lists with the same items are permutations
module _ {X : Type 0} (coded : Coded X) where
  abbrev is_item : X → X → Bool
  is_item x y = same_value (coded.code x) (coded.code y)

  -- 1 for this item, and 0 for all others
  abbrev weight_of : X → X → ℕ
  weight_of x y = cond (is_item x y) 1 0

  -- the place of an item in a list: what is before and after it
  record Stands (x : X) (ys : List X) : Type 0 where
    pub before : List X
    pub after : List X
    pub here : ys ≡ before ++ x ∷ after

  stands_later : (x y : X) (ys : List X) → Stands x ys → Stands x (y ∷ ys)
  stands_later x y ys s =
      record { before = y ∷ s.before; after = s.after; here = ap (λ l. y ∷ l) s.here }

  -- a list in which an item has a weight has the item: it is the first, or it is in the rest
  stands_by : (b : Bool) (x y : X) (ys : List X) → is_item x y ≡ b → 0 < sum_by (weight_of x) (y ∷ ys)
      → (0 < sum_by (weight_of x) ys → Stands x ys) → Stands x (y ∷ ys)
  stands_by true x y ys is some_weight later =
      let same : x ≡ y = coded.inj x y (same_value-true (coded.code x) (coded.code y) is) in
      record { before = []; after = ys; here = ap (λ z. z ∷ ys) (sym same) }
  stands_by false x y ys is some_weight later =
      let none : weight_of x y ≡ 0 = ap (λ b. cond b 1 0) is in
      stands_later x y ys (later (omega (arith, sum_by-cons (weight_of x) y ys)))

  stands : (x : X) (ys : List X) → 0 < sum_by (weight_of x) ys → Stands x ys
  stands x [] some_weight = absurd (lt_irrefl 0 some_weight)
  stands x (y ∷ ys) some_weight = stands_by (is_item x y) x y ys refl some_weight (stands x ys)

  pub SameItems-permutation : (xs ys : List X) → SameItems xs ys → IsPermutation xs ys
  SameItems-permutation [] [] same = IsPermutation-refl []
  SameItems-permutation [] (y ∷ ys) same =
      let len = SameItems-length [] (y ∷ ys) same in absurd (omega arith)
  SameItems-permutation (x ∷ xs) ys same =
      let one : weight_of x x ≡ 1 = ap (λ b. cond b 1 0) (same_value-refl (coded.code x)) in
      let weighs = same (weight_of x) in
      let at = stands x ys (omega (arith, sum_by-cons (weight_of x) x xs)) in
      let rest : SameItems xs (at.before ++ at.after) = λ h.
      let all = same h in
      let split = ap (sum_by h) at.here in
      omega (arith, sum_by-cons h x xs, sum_by-append h at.before (x ∷ at.after), sum_by-cons h x at.after, sum_by-append h at.before at.after) in
      let moved = IsPermutation-cons x xs (at.before ++ at.after)
      (SameItems-permutation xs (at.before ++ at.after) rest) in
      let back = IsPermutation-sym _ _ (IsPermutation-middle at.before x at.after) in
      subst (IsPermutation (x ∷ xs)) (sym at.here) (IsPermutation-trans _ _ _ moved back)
