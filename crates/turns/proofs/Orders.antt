use Rattle.std.proofs.Common.{◌≡◌, ℕ, zero, suc, ◌+◌, ◌%◌, ◌^◌, List, [], ◌∷◌, ◌++◌, length, refl, ap, ◌∙◌, subst, arith, Some, slice_get, take}
use Rattle.{std.proofs.Math.Nat.mod-add-mod, turns.specs.{Clock.IsCount, System.System, World.{RecordOf, after}, Law.IsLegal}}

-- one turn more, modulo 2^64
pub turn_more : (n : ℕ) → (n % 2 ^ 64 + 1) % 2 ^ 64 ≡ suc n % 2 ^ 64
turn_more n = let e : n + 1 ≡ suc n = omega arith in mod-add-mod n (2 ^ 64) 1 ∙ ap (λ (m : ℕ). m % 2 ^ 64) e

pub length_more : {A : Type 0} (xs : List A) (x : A) → length (xs ++ x ∷ []) ≡ suc (length xs)
length_more [] x = refl
length_more (y ∷ xs) x = ap suc (length_more xs x)

-- the last item of a list, and an item at its place once more items follow
pub get_last : {A : Type 0} (xs : List A) (x : A) → slice_get (xs ++ x ∷ []) (length xs) ≡ Some x
get_last [] x = refl
get_last (y ∷ xs) x = get_last xs x

pub get_before : {A : Type 0} (xs more : List A) (i : ℕ) (x : A) → slice_get xs i ≡ Some x → slice_get (xs ++ more) i ≡ Some x
get_before [] more i x e = absurd cc
get_before (y ∷ xs) more zero x e = e
get_before (y ∷ xs) more (suc i) x e = get_before xs more i x e

-- what comes before an item is the same in a list that has the same items at their places
pub take_before : {A : Type 0} (xs ys : List A) (i : ℕ) (x : A) → ((j : ℕ) (y : A) → slice_get xs j ≡ Some y → slice_get ys j ≡ Some y)
    → slice_get xs i ≡ Some x → take i ys ≡ take i xs
take_before xs ys zero x on e = refl
take_before [] ys (suc i) x on e = absurd cc
take_before (y ∷ xs) [] (suc i) x on e = let there = on zero y refl in absurd cc
take_before (y ∷ xs) (z ∷ ys) (suc i) x on e =
    let there = on zero y refl in
    let same : z ≡ y = cc in
    let rest : take i ys ≡ take i xs = take_before xs ys i x (λ j. on (suc j)) e in
    cc

module _ (O : System) where
  open O use {State, whole}

  pub after_more : (state : State) (order : List (RecordOf O)) (r : RecordOf O) → after O state (order ++ r ∷ []) ≡ (whole (after O state order) r.job).state
  after_more state [] r = refl
  after_more state (x ∷ order) r = after_more (whole state x.job).state order r

  -- a legal order goes on by a record with the next turn, and the reply of its job done whole
  pub legal_more : (i : ℕ) (state : State) (order : List (RecordOf O)) (r : RecordOf O) → IsLegal O i state order → O.IsJob r.job
      → IsCount O.clock r.turn (i + length order) → r.reply ≡ (whole (after O state order) r.job).reply → IsLegal O i state (order ++ r ∷ [])
  legal_more i state [] r legal given turn reply = let e : i + zero ≡ i = omega arith in (given, subst (λ (m : ℕ). IsCount O.clock r.turn m) e turn, reply, tt)
  legal_more i state (x ∷ order) r legal given turn reply =
      let e : i + suc (length order) ≡ suc i + length order = omega arith in
      (legal.0, legal.1, legal.2, legal_more (suc i) (whole state x.job).state order r legal.3 given (subst (λ (m : ℕ). IsCount O.clock r.turn m) e turn) reply)
