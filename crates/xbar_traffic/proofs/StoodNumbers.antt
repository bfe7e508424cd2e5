use Rattle.std.proofs.Common.{◌≡◌, ◌<◌, ◌==◌, ◌||◌, ◌⊎◌, inl, inr, ℕ, zero, suc, Bool, true, false, List, length, get_or, set, replicate, refl, arith}
use Rattle.std.proofs.Common.{get_or-set_other, get_or-set_same}
use Rattle.std.proofs.lemmas.Bool.{cases_eq, Decides.nat_tests}

in_no_only : (n number : ℕ) → get_or (replicate n false) number false ≡ false
in_no_only zero number = refl
in_no_only (suc n) zero = refl
in_no_only (suc n) (suc number) = in_no_only n number

-- by a list that has only 'no', no earlier row has a number
pub none_stands : (seen : List Bool) (n : ℕ) → seen ≡ replicate n false → (number : ℕ) → get_or seen number false ≡ false
none_stands seen n all number = rw all (in_no_only n number)

one_more_at : (seen : List Bool) (i j : ℕ) → i < length seen → (j ≡ i) ⊎ (j ≡ i → ⊥) → get_or (set seen i true) j false ≡ (get_or seen j false || i == j)
one_more_at seen i j h (inl same) =
    let there = get_or-set_same seen i true false h in
    grind (arith, nat_tests)
one_more_at seen i j h (inr other) =
    let as_before = get_or-set_other seen i j true false other in
    grind (arith, nat_tests)

-- if a number is added to a list, the list has just that number too
pub one_more_stands : (seen : List Bool) (i j : ℕ) → i < length seen → get_or (set seen i true) j false ≡ (get_or seen j false || i == j)
one_more_stands seen i j h = one_more_at seen i j h (cases_eq j i)
