use Rattle.std.proofs.Common.{◌≡◌, ◌≢◌, ℕ, ◌+◌, ◌<◌, Bool, true, false, cond, List, [], ◌∷◌, ◌++◌, length, get_or, set, take, map, refl, sym, ◌∙◌, ap, subst}
use Rattle.std.proofs.Common.{arith, Option, Some, None, position, slice_get, find, is_some, nat_lt, ◌==◌, length-take-le, get_or-set_same, get_or-set_other}
use Rattle.std.proofs.Common.{ltb-false, eqb-true, eq-eqb}
use Rattle.std.specs.{Option.option_or, List.{position_from, position_or_len}}
use Rattle.std.proofs.lemmas.{Iterator.Adapters.position_from-zero, List.{take_more, Folds.find_at}, Option.slice_get_past}

-- the index, if the item passes
abbrev pub here : Bool → ℕ → Option ℕ
here b i = cond b (Some i) None

chosen : (b : Bool) (i : ℕ) (before : Option ℕ) (later now : Option ℕ) → later ≡ option_or before now
    → cond b (Some i) later ≡ option_or (cond b (Some i) before) now
chosen true i before later now e = refl
chosen false i before later now e = e

from-last : {X : Type 0} (p : X → Bool) (i : ℕ) (xs : List X) (x : X)
    → position_from p i (xs ++ x ∷ []) ≡ option_or (position_from p i xs) (here (p x) (i + length xs))
from-last p i [] x = ap (here (p x)) (omega arith)
from-last p i (y ∷ xs) x =
    let same : (i + 1) + length xs ≡ i + length (y ∷ xs) = omega arith in
    chosen (p y) i (position_from p (i + 1) xs) (position_from p (i + 1) (xs ++ x ∷ [])) (here (p x) (i + length (y ∷ xs)))
    (from-last p (i + 1) xs x ∙ ap (λ (n : ℕ). option_or (position_from p (i + 1) xs) (here (p x) n)) same)

-- the first that passes, of a list with one more item at its end: the one before, or else the last
pub position-last : {X : Type 0} (p : X → Bool) (xs : List X) (x : X) → position p (xs ++ x ∷ []) ≡ option_or (position p xs) (here (p x) (length xs))
position-last p xs x =
    let size : 0 + length xs ≡ length xs = omega arith in
    position_from-zero p (xs ++ x ∷ []) ∙ from-last p 0 xs x ∙ ap (λ (n : ℕ). option_or (position_from p 0 xs) (here (p x) n)) size
    ∙ ap (λ (o : Option ℕ). option_or o (here (p x) (length xs))) (sym (position_from-zero p xs))

from-map : {X Y : Type 0} (p : Y → Bool) (f : X → Y) (i : ℕ) (xs : List X) → position_from p i (map f xs) ≡ position_from (λ x. p (f x)) i xs
from-map p f i [] = refl
from-map p f i (x ∷ xs) = ap (λ (o : Option ℕ). cond (p (f x)) (Some i) o) (from-map p f (i + 1) xs)

-- the first of what a function makes
pub position-map : {X Y : Type 0} (p : Y → Bool) (f : X → Y) (xs : List X) → position p (map f xs) ≡ position (λ x. p (f x)) xs
position-map p f xs = position_from-zero p (map f xs) ∙ from-map p f 0 xs ∙ sym (position_from-zero (λ x. p (f x)) xs)

-- the item found is the one at the first index
pub find-at_position : {X : Type 0} (p : X → Bool) (xs : List X) (i : ℕ) → position p xs ≡ Some i → find p xs ≡ slice_get xs i
find-at_position p xs i e = of (nat_lt (position_or_len p xs) (length xs)) e where
  of : (b : Bool) → cond b (Some (position_or_len p xs)) None ≡ Some i → find p xs ≡ slice_get xs i
  of true e = let same : position_or_len p xs ≡ i = cc in find_at p xs ∙ ap (slice_get xs) same
  of false e = cc

pub find-none : {X : Type 0} (p : X → Bool) (xs : List X) → position p xs ≡ None → find p xs ≡ None
find-none p xs e = of (nat_lt (position_or_len p xs) (length xs)) refl e where
  of : (b : Bool) → nat_lt (position_or_len p xs) (length xs) ≡ b → cond b (Some (position_or_len p xs)) None ≡ None → find p xs ≡ None
  of true past e = cc
  of false past e = find_at p xs ∙ slice_get_past xs (position_or_len p xs) (ltb-false (position_or_len p xs) (length xs) past)

-- ---- a table with the first index of each number

pub or-none : {X : Type 0} (o : Option X) → option_or o None ≡ o
or-none None = refl
or-none (Some x) = refl

-- the numbers up to the next one
next : (xs : List ℕ) (i x k : ℕ) → i < length xs → x ≡ get_or xs i 0
    → position (λ n. n == k) (take (i + 1) xs) ≡ option_or (position (λ n. n == k) (take i xs)) (here (x == k) i)
next xs i x k within read =
    let size : length (take i xs) ≡ i = length-take-le i xs (omega (arith, within)) in
    ap (position (λ n. n == k)) (take_more xs i 0 within ∙ ap (λ (y : ℕ). take i xs ++ y ∷ []) (sym read))
    ∙ position-last (λ n. n == k) (take i xs) x ∙ ap (λ (n : ℕ). option_or (position (λ n. n == k) (take i xs)) (here (x == k) n)) size

pub no_item : {X : Type 0} (o : Option X) → is_some o ≡ false → o ≡ None
no_item None e = refl
no_item (Some x) e = cc

pub some_item : {X : Type 0} (o : Option X) → is_some o ≡ true → (x : X) × (o ≡ Some x)
some_item None e = cc
some_item (Some x) e = (x, refl)

-- a number that has no index yet gets this one
pub placed : (table : List (Option ℕ)) (xs : List ℕ) (i x count : ℕ) → i < length xs → x ≡ get_or xs i 0 → length table ≡ count → x < count
    → is_some (get_or table x None) ≡ false → ((k : ℕ) → k < count → get_or table k None ≡ position (λ n. n == k) (take i xs)) → (k : ℕ) → k < count
    → get_or (set table x (Some i)) k None ≡ position (λ n. n == k) (take (i + 1) xs)
placed table xs i x count within read size there free first k below = of (x == k) refl where
  of : (b : Bool) → (x == k) ≡ b → get_or (set table x (Some i)) k None ≡ position (λ n. n == k) (take (i + 1) xs)
  of true e =
      let is : x ≡ k = eqb-true x k e in
      let fits : x < length table = omega (arith, size, there) in
      let none : position (λ n. n == k) (take i xs) ≡ None =
      sym (first k below) ∙ ap (λ (m : ℕ). get_or table m None) (sym is) ∙ no_item (get_or table x None) free in
      subst (λ (m : ℕ). get_or (set table x (Some i)) m None ≡ Some i) is (get_or-set_same table x (Some i) None fits)
      ∙ sym (next xs i x k within read ∙ ap (λ (o : Option ℕ). option_or o (here (x == k) i)) none ∙ ap (λ (b : Bool). here b i) e)
  of false e =
      let other : k ≢ x = λ is. let no : true ≡ false = sym (eq-eqb x k (sym is)) ∙ e in cc in
      get_or-set_other table x k (Some i) None other ∙ first k below
      ∙ sym (next xs i x k within read ∙ ap (λ (b : Bool). option_or (position (λ n. n == k) (take i xs)) (here b i)) e
      ∙ or-none (position (λ n. n == k) (take i xs)))

-- a number past the table, or with an index already, changes nothing
pub kept : (table : List (Option ℕ)) (xs : List ℕ) (i x count : ℕ) → i < length xs → x ≡ get_or xs i 0 → (x < count → is_some (get_or table x None) ≡ true)
    → ((k : ℕ) → k < count → get_or table k None ≡ position (λ n. n == k) (take i xs)) → (k : ℕ) → k < count
    → get_or table k None ≡ position (λ n. n == k) (take (i + 1) xs)
kept table xs i x count within read has first k below = of (x == k) refl where
  of : (b : Bool) → (x == k) ≡ b → get_or table k None ≡ position (λ n. n == k) (take (i + 1) xs)
  of true e =
      let is : x ≡ k = eqb-true x k e in
      let old = some_item (get_or table x None) (has (omega (arith, is, below))) in
      let some : get_or table k None ≡ Some old.0 = ap (λ (m : ℕ). get_or table m None) (sym is) ∙ old.1 in
      let was : position (λ n. n == k) (take i xs) ≡ Some old.0 = sym (first k below) ∙ some in
      some ∙ sym (next xs i x k within read ∙ ap (λ (o : Option ℕ). option_or o (here (x == k) i)) was)
  of false e =
      first k below
      ∙ sym (next xs i x k within read ∙ ap (λ (b : Bool). option_or (position (λ n. n == k) (take i xs)) (here b i)) e
      ∙ or-none (position (λ n. n == k) (take i xs)))
