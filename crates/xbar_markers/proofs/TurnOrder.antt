-- records of which each turn is there once, sorted by turn, are those of the turns in their order
use Rattle.std.proofs.Common.{◌≡◌, ℕ, zero, suc, ◌+◌, ◌<◌, ◌≤◌, List, [], ◌∷◌, sym, refl, ap, arith, length, Contains, slice_index_or}
use Rattle.{std.{proofs.lemmas.List.Sums.sum_by-cons, specs.List.Sorted.IsNonDecreasingBy}, fair_queue.specs.Items.SameItems}
use Rattle.xbar_office.specs.{Legal.HaveTurns, declared.reply.Record.Record}

module _ (contained : (xs ys : List Record) (x : Record) → SameItems xs ys → Contains xs x → Contains ys x) where
  abbrev Sorted : List Record → Type 0
  Sorted records = IsNonDecreasingBy (λ r. r.turn) records

  -- the turns go on by one
  turn_at : (t : ℕ) (records : List Record) → HaveTurns t records → (k : ℕ) (d : Record) → k < length records → (slice_index_or records k d).turn ≡ t + k
  turn_at t [] turns k d below = absurd (omega arith)
  turn_at t (r ∷ records) turns zero d below = omega (arith, turns.0)
  turn_at t (r ∷ records) turns (suc k) d below =
      let at = turn_at (t + 1) records turns.1 k d (omega (arith, below)) in
      omega (arith, at)

  -- the first of sorted records has the least turn
  first_least : (x : Record) (xs : List Record) (y : Record) → Sorted (x ∷ xs) → Contains (x ∷ xs) y → x.turn ≤ y.turn
  first_least x xs y sorted (zero, below, is) = let same = ap (λ (r : Record). r.turn) is in omega (arith, same)
  first_least x xs y sorted (suc k, below, is) =
      let after = sorted 0 (suc k) y (omega arith) below in
      let same = ap (λ (r : Record). r.turn) is in
      omega (arith, after, same)

  first_is : (t : ℕ) (x y : Record) (ys : List Record) → HaveTurns t (y ∷ ys) → x.turn ≤ y.turn → Contains (y ∷ ys) x → x ≡ y
  first_is t x y ys turns least (zero, below, is) = sym is
  first_is t x y ys turns least (suc k, below, is) =
      let at = turn_at (t + 1) ys turns.1 k x (omega (arith, below)) in
      let same = ap (λ (r : Record). r.turn) is in
      absurd (omega (arith, at, same, least, turns.0))

  pub in_turn_order : (t : ℕ) (xs ys : List Record) → HaveTurns t ys → Sorted xs → SameItems ys xs → xs ≡ ys
  in_turn_order t [] [] turns sorted same = refl
  in_turn_order t (x ∷ xs) [] turns sorted same =
      let count = same (λ r. 1) in absurd (omega (arith, count, sum_by-cons (λ (r : Record). 1) x xs))
  in_turn_order t [] (y ∷ ys) turns sorted same =
      let count = same (λ r. 1) in absurd (omega (arith, count, sum_by-cons (λ (r : Record). 1) y ys))
  in_turn_order t (x ∷ xs) (y ∷ ys) turns sorted same =
      let least = first_least x xs y sorted (contained (y ∷ ys) (x ∷ xs) y same (zero, omega arith, refl)) in
      let first = first_is t x y ys turns least (contained (x ∷ xs) (y ∷ ys) x (λ h. sym (same h)) (zero, omega arith, refl)) in
      let rest = in_turn_order (t + 1) xs ys turns.1 (λ i j d before below. sorted (suc i) (suc j) d (omega (arith, before)) (omega (arith, below)))
      (λ h.
      let both = same h in
      let weight = ap h first in
      omega (arith, both, weight, sum_by-cons h x xs, sum_by-cons h y ys)) in
      λ i. first i ∷ rest i
