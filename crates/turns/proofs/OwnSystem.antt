-- what the proof that jobs of one's own are a system is made of
use Rattle.std.proofs.Common.{◌≡◌, ℕ, zero, suc, ◌+◌, ◌-◌, ◌<◌, ◌≤◌, ◌^◌, Bool, true, false, List, [], ◌∷◌, replicate, slice_index, inl, inr, refl, sym, arith}
use Rattle.std.proofs.Common.{subst, eqb-true, eq-eqb, ◌↔◌, ◌==◌}
use Rattle.turns.specs.{Among.IsIn, Deciding.decide_if, Operations.{applied, FitsWord}, System.{System, IsUnder, MayMake, DecidesAs, Whole}}
use Rattle.turns.specs.declared.operation.Operation.TheVariants.{Add, Sub}
pub use Rattle.turns.proofs.Lists.{index_same, index_other}
pub use Rattle.turns.proofs.Words.{zeros_below}

-- the test of two locks that are numbers
pub same_number : (a b : ℕ) → ((a == b) ≡ true) ↔ (a ≡ b)
same_number a b = (eqb-true a b, eq-eqb a b)

-- each of so many words of 0 is 0
pub zero_at : (count n : ℕ) → slice_index (replicate count 0) n ≡ 0
zero_at zero n = refl
zero_at (suc count) zero = refl
zero_at (suc count) (suc n) = zero_at count n

-- a sum that fits a word, and a difference of numbers
pub added_is : (found more : ℕ) → found + more < 2 ^ 64 → applied (Add more) found ≡ found + more
added_is found more fits = omega arith

pub subtracted_is : (found less : ℕ) → found < 2 ^ 64 → less ≤ found → applied (Sub less) found ≡ found - less
subtracted_is found less below enough = omega arith

-- what holds of each of two decisions, if it is the one to take, holds of the one that is taken
pub either_has : {A : Type 0} (Has : A → Type 0) (test : Bool) (one other : A) → (test ≡ true → Has one) → (test ≡ false → Has other)
    → Has (decide_if test one other)
either_has Has true one other here there = here refl
either_has Has false one other here there = there refl

module _ (O : System) where
  open O use {Lock, Effect, Decision, State, Reply}

  -- a word under a lock that is held
  pub under_its_lock : (held : List Lock) (lock : Lock) (word : ℕ) → O.Protects lock word → IsIn lock held → IsUnder O held word
  under_its_lock held lock word protects within = record { lock = lock; protects = protects; held = within }

  -- no effect may be made whatever is held, and one more if it is on a word under a held lock
  pub makes_none : (held : List Lock) → MayMake O held []
  makes_none held = record { under = λ effect none. absurd none; fit = λ effect none. absurd none }

  pub makes_more : (held : List Lock) (effect : Effect) (effects : List Effect) → IsUnder O held (O.effect_word effect) → FitsWord (O.operation_of effect)
      → MayMake O held effects → MayMake O held (effect ∷ effects)
  makes_more held effect effects under fits more = record { under = unders; fit = fit } where
    unders : (e : Effect) → IsIn e (effect ∷ effects) → IsUnder O held (O.effect_word e)
    unders e (inl is) = subst (λ (x : Effect). IsUnder O held (O.effect_word x)) (sym is) under
    unders e (inr later) = more.under e later

    fit : (e : Effect) → IsIn e (effect ∷ effects) → FitsWord (O.operation_of e)
    fit e (inl is) = subst (λ (x : Effect). FitsWord (O.operation_of x)) (sym is) fits
    fit e (inr later) = more.fit e later

  -- a job that is done or else refused, by one test, decides as it does when done whole
  pub decides_if : (words : List ℕ) (test : Bool) (after same : Whole State Reply) (one other : Decision) → (test ≡ true → DecidesAs O words after one)
      → (test ≡ false → DecidesAs O words same other) → DecidesAs O words (decide_if test after same) (decide_if test one other)
  decides_if words true after same one other doing refusing = doing refl
  decides_if words false after same one other doing refusing = refusing refl
