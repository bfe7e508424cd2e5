use Rattle.std.proofs.Common.{◌≡◌, ℕ, zero, suc, ◌+◌, ◌<◌, Bool, true, false, List, [], ◌∷◌, ◌++◌, length, get_or, take, drop, refl, sym, ◌∙◌, ap}
use Rattle.std.proofs.Common.{take-append-drop, not, ◌||◌, ◌&&◌, nat_eq, eqb-true, eq-eqb, bytes_eq, Option, Some, None, IfSome, position, slice_get, arith}
use Rattle.std.proofs.Common.{IsSome, length-take, get_or-take}
use Rattle.std.{specs.List.list_any, proofs.lemmas.{List.{take_more, Folds.list_any-append, Quantifiers.position-Some}, Option.slice_get-get_or}}
use Rattle.{std.proofs.lemmas.Slice.Eq.bytes_eq-Decides, xbar_equip.proofs.{Logic.both, Lists.{any_passes, item_in}}}
use Rattle.xbar_plan.{specs.{Lawful.are_distinct, TableFault.IsRepeatIn}, proofs.{Distinct.distinct-left, Lists.position-none}}

-- the tests of two numbers and of two names are exact
pub nat_eq-itself : (n : ℕ) → nat_eq n n ≡ true
nat_eq-itself n = eq-eqb n n refl

pub nat_eq-is : (m n : ℕ) → nat_eq m n ≡ true → m ≡ n
nat_eq-is m n e = eqb-true m n e

exact_turned : {X : Type 0} (same : X → X → Bool) → ((x y : X) → same x y ≡ true → x ≡ y) → ((x : X) → same x x ≡ true) → (x y : X) → same x y ≡ same y x
exact_turned {X} same is itself x y = of (same x y) (same y x) refl refl where
  of : (a b : Bool) → same x y ≡ a → same y x ≡ b → a ≡ b
  of true b e f = sym (ap (λ (z : X). same y z) (is x y e) ∙ itself y) ∙ f
  of false true e f = sym e ∙ ap (λ (z : X). same x z) (is y x f) ∙ itself x
  of false false e f = refl

pub nat_eq-turned : (m n : ℕ) → nat_eq m n ≡ nat_eq n m
nat_eq-turned = exact_turned nat_eq nat_eq-is nat_eq-itself

pub bytes_eq-is : (x y : List ℕ) → bytes_eq x y ≡ true → x ≡ y
bytes_eq-is x y e = (bytes_eq-Decides x y).0 e

pub bytes_eq-itself : (x : List ℕ) → bytes_eq x x ≡ true
bytes_eq-itself x = (bytes_eq-Decides x x).1 refl

pub bytes_eq-turned : (x y : List ℕ) → bytes_eq x y ≡ bytes_eq y x
bytes_eq-turned = exact_turned bytes_eq bytes_eq-is bytes_eq-itself

rearranged : (a d b e : Bool) → (not (a || (e || false)) && (d && not b)) ≡ ((not a && d) && not (e || b))
rearranged true d b e = refl
rearranged false true true true = refl
rearranged false true true false = refl
rearranged false true false true = refl
rearranged false true false false = refl
rearranged false false true true = refl
rearranged false false true false = refl
rearranged false false false true = refl
rearranged false false false false = refl

module _ {X : Type 0} (same : X → X → Bool) (itself : (x : X) → same x x ≡ true) (turned : (x y : X) → same x y ≡ same y x) where
  -- one more item at the end: those before are distinct, and it is none of them
  distinct-snoc : (xs : List X) (x : X) → are_distinct same (xs ++ x ∷ []) ≡ (are_distinct same xs && not (list_any (λ n. same n x) xs))
  distinct-snoc [] x = refl
  distinct-snoc (a ∷ xs) x =
      let later = distinct-snoc xs x in
      let any = list_any-append (λ n. same n a) xs (x ∷ []) in
      let others = list_any (λ n. same n a) xs in
      ap (λ (b : Bool). not b && are_distinct same (xs ++ x ∷ [])) any
      ∙ ap (λ (b : Bool). not (others || (same x a || false)) && b) later
      ∙ ap (λ (b : Bool). not (others || (b || false)) && (are_distinct same xs && not (list_any (λ n. same n x) xs))) (turned x a)
      ∙ rearranged others (are_distinct same xs) (list_any (λ n. same n x) xs) (same a x)

  next : (xs : List X) (i : ℕ) (d x : X) → i < length xs → x ≡ get_or xs i d → take (i + 1) xs ≡ take i xs ++ x ∷ []
  next xs i d x within read = take_more xs i d within ∙ ap (λ (y : X). take i xs ++ y ∷ []) (sym read)

  -- if no earlier item is the same, the items up to this one are distinct
  pub apart_more : (xs : List X) (i : ℕ) (d x : X) → i < length xs → x ≡ get_or xs i d → are_distinct same (take i xs) ≡ true
      → list_any (λ n. same n x) (take i xs) ≡ false → are_distinct same (take (i + 1) xs) ≡ true
  apart_more xs i d x within read before new =
      ap (are_distinct same) (next xs i d x within read) ∙ distinct-snoc (take i xs) x
      ∙ ap (λ (b : Bool). b && not (list_any (λ n. same n x) (take i xs))) before ∙ ap not new

  -- if an earlier item is the same, not all are distinct
  pub twice : (xs : List X) (i : ℕ) (d x : X) → i < length xs → x ≡ get_or xs i d → list_any (λ n. same n x) (take i xs) ≡ true
      → are_distinct same xs ≡ false
  twice xs i d x within read seen = of (are_distinct same xs) refl where
    of : (b : Bool) → are_distinct same xs ≡ b → b ≡ false
    of false e = refl
    of true e =
        let all : are_distinct same (take (i + 1) xs ++ drop (i + 1) xs) ≡ true = ap (are_distinct same) (take-append-drop (i + 1) xs) ∙ e in
        let front = distinct-left same itself (take (i + 1) xs) (drop (i + 1) xs) all in
        let apart : (are_distinct same (take i xs) && not (list_any (λ n. same n x) (take i xs))) ≡ true =
        sym (distinct-snoc (take i xs) x) ∙ ap (are_distinct same) (sym (next xs i d x within read)) ∙ front in
        let new = (both (are_distinct same (take i xs)) (not (list_any (λ n. same n x) (take i xs))) apart).1 in
        let no : false ≡ true = ap not (sym seen) ∙ new in
        cc

-- if some item passes, the first that does has a position
pub no_position : {X : Type 0} (p : X → Bool) (xs : List X) → position p xs ≡ None → list_any p xs ≡ false
no_position {X} p xs e = none xs (position-none p xs e) where
  none : (ys : List X) → ((i : ℕ) → IfSome (slice_get ys i) (λ y. p y ≡ false)) → list_any p ys ≡ false
  none [] all = refl
  none (y ∷ ys) all = ap (λ (b : Bool). b || list_any p ys) (all zero) ∙ none ys (λ i. all (suc i))

pub some_position : {X : Type 0} (p : X → Bool) (xs : List X) → list_any p xs ≡ true → IsSome (position p xs)
some_position p xs any = of (position p xs) refl where
  of : (o : Option ℕ) → position p xs ≡ o → IsSome o
  of None e = let no : true ≡ false = sym any ∙ no_position p xs e in cc
  of (Some i) e = refl

-- the item at an index is the same as the first such item before it
module _ {X : Type 0} (same : X → X → Bool) (is : (x y : X) → same x y ≡ true → x ≡ y) (xs : List X) (item earlier : ℕ) (x : X)
    (within : item < length xs) (here : x ≡ get_or xs item x) (first : position (λ n. same n x) (take item xs) ≡ Some earlier) where
  place : earlier < length (take item xs) × (same (get_or (take item xs) earlier x) x ≡ true)
  place = let found = position-Some (λ n. same n x) (take item xs) earlier x first in (found.0, found.1)

  before : earlier < item
  before = let size = length-take item xs in omega (arith, place.0, size)

  pub repeats : IsRepeatIn xs (record { item = item; earlier = earlier })
  repeats =
      let earlier_is : get_or xs earlier x ≡ x = sym (get_or-take item xs earlier x before) ∙ is (get_or (take item xs) earlier x) x place.1 in
      record {
        order = before;
        within = within;
        same =
            slice_get-get_or xs item x within ∙ ap (λ (y : X). Some y) (sym here ∙ sym earlier_is)
            ∙ sym (slice_get-get_or xs earlier x (omega (arith, before, within)));
      }

  pub seen : list_any (λ n. same n x) (take item xs) ≡ true
  seen =
      any_passes (λ n. same n x) (take item xs) (get_or (take item xs) earlier x)
      (item_in (take item xs) earlier (get_or (take item xs) earlier x) (slice_get-get_or (take item xs) earlier x place.0)) place.1
