-- words are of 64 bits, whatever is done to them
use Rattle.std.proofs.Common.{◌≡◌, ℕ, zero, suc, ◌+◌, ◌-◌, ◌<◌, ◌^◌, Bool, true, false, List, [], ◌∷◌, ◌++◌, replicate, slice_index, slice_set, sym, inl, inr}
use Rattle.std.proofs.Common.{refl, arith, subst, mod-lt, Some, ◌==◌, find, option_map, if◌then◌else◌}
use Rattle.{std.proofs.lemmas.Nat.{and_le_l, or_lt}, turns.specs.{Operations.{applied, FitsWord}, Script.{Script, Ends, TestThen, SeizeThen, run, value_read}}}
use Rattle.turns.specs.{Bounds.AllEndsHave, Seen.AreReadWords, System.{System, AreWords, FitWords, effect_on}, World.{ActorOf, effects_left_of, value_after}}
use Rattle.turns.specs.{World.{completed_word, completed_from}, declared.operation.Operation.{Operation, TheVariants.{Load, Or, And, Add, Sub, Store}}}
use Rattle.turns.{specs.declared.{operation.Operation.TheVariants.CompareExchange, reading.Reading.Reading}, proofs.Lists.in_more}
use mathlib.Core.Option.{some}
use lib.ListN.{get_elem?}

-- an operation leaves a word of 64 bits
pub applied_below : (op : Operation) (found : ℕ) → FitsWord op → found < 2 ^ 64 → applied op found < 2 ^ 64
applied_below Load found fits below = below
applied_below (Or bits) found fits below = or_lt 64 found bits below fits
applied_below (And mask) found fits below = omega (arith, and_le_l found mask)
applied_below (Add more) found fits below = mod-lt (found + more) {m = 2 ^ 64} (omega arith)
applied_below (Sub less) found fits below = mod-lt (found + (2 ^ 64 - less)) {m = 2 ^ 64} (omega arith)
applied_below (Store value) found fits below = fits
applied_below (CompareExchange expected new) found fits below = at (found == expected) where
  at : (t : Bool) → (if t then new else found) < 2 ^ 64
  at true = fits
  at false = below

-- words of 0, and words of which one is set
pub zeros_below : (count : ℕ) → AreWords (replicate count 0)
zeros_below zero n = omega arith
zeros_below (suc count) zero = omega arith
zeros_below (suc count) (suc n) = zeros_below count n

pub set_below : (words : List ℕ) (i value : ℕ) → AreWords words → value < 2 ^ 64 → AreWords (slice_set words i value)
set_below [] i value are below n = are n
set_below (word ∷ words) zero value are below zero = below
set_below (word ∷ words) zero value are below (suc n) = are (suc n)
set_below (word ∷ words) (suc i) value are below zero = are 0
set_below (word ∷ words) (suc i) value are below (suc n) = set_below words i value (λ m. are (suc m)) below n

-- what is made of a number that fits a word fits it too
abbrev pub MakesWords : (ℕ → ℕ → ℕ) → Type 0
MakesWords change = (word value : ℕ) → value < 2 ^ 64 → change word value < 2 ^ 64

-- what was read in a word fits it
pub value_read-below : (readings : List (Reading ℕ)) (word value : ℕ) → AreReadWords readings → value_read readings word ≡ Some value → value < 2 ^ 64
unfolding value_read
value_read-below [] word value are e = cc
value_read-below (reading ∷ readings) word value are e =
    at (reading.word == word) (value_read-below readings word value (λ r within. are r (inr within))) e where
      at : (b : Bool) → (value_read readings word ≡ Some value → value < 2 ^ 64)
          → option_map (λ (r : Reading ℕ). r.value) (if b then Some reading else find (λ (r : Reading ℕ). r.word == word) readings) ≡ Some value
          → value < 2 ^ 64
      at true later found =
          let here : reading.value ≡ value = cc in
          subst (λ (v : ℕ). v < 2 ^ 64) here (are reading (inl refl))
      at false later found = later found

-- and so does what was read with one reading more
pub read_more : (readings : List (Reading ℕ)) (last : Reading ℕ) → AreReadWords readings → last.value < 2 ^ 64 → AreReadWords (readings ++ last ∷ [])
read_more readings last are below r within =
    elim (in_more r last readings within) [ inl front ↦ are r front | inr e ↦ subst (λ (x : Reading ℕ). x.value < 2 ^ 64) (sym e) below ]

-- on words, a script ends as each of its ends does
pub run_ends : {Lock A : Type 0} (Has : A → Type 0) (words : List ℕ) (script : Script Lock A) → AreWords words → AllEndsHave Has script → Has (run words script)
unfolding run AllEndsHave
run_ends Has words (Ends found) are has = has
run_ends Has words (TestThen word script) are has = run_ends Has words (script (slice_index words word)) are (has (slice_index words word) (are word))
run_ends Has words (SeizeThen lock script) are has = run_ends Has words script are has

module _ (O : System) where
  open O use {Effect}

  -- effects that fit their words leave words
  pub made_below : (effects : List Effect) → FitWords O effects → MakesWords (value_after O effects)
  made_below [] fit word value below = below
  made_below (effect ∷ effects) fit word value below =
      made_below effects (λ e within. fit e (inr within)) word (if O.effect_word effect == word then effect_on O effect value else value)
      (at (O.effect_word effect == word)) where
        at : (t : Bool) → (if t then effect_on O effect value else value) < 2 ^ 64
        at true = applied_below (O.operation_of effect) value (fit effect (inl refl)) below
        at false = below

  -- each actor's effects that are left fit their words
  abbrev pub AllFit : List (ActorOf O) → Type 0
  AllFit actors = (k : ℕ) (m : ActorOf O) → get_elem? actors k ≡ some m → FitWords O (effects_left_of O m)

  completed_word-below : (actors : List (ActorOf O)) (word value : ℕ) → AllFit actors → value < 2 ^ 64 → completed_word O actors word value < 2 ^ 64
  completed_word-below [] word value fit below = below
  completed_word-below (m ∷ actors) word value fit below =
      completed_word-below actors word (value_after O (effects_left_of O m) word value) (λ k other at. fit (suc k) other at)
      (made_below (effects_left_of O m) (fit 0 m refl) word value below)

  -- so the completed words are words
  pub completed_below : (actors : List (ActorOf O)) (word : ℕ) (words : List ℕ) → AllFit actors → AreWords words → AreWords (completed_from O actors word words)
  completed_below actors word [] fit are n = are n
  completed_below actors word (value ∷ words) fit are zero = completed_word-below actors word value fit (are 0)
  completed_below actors word (value ∷ words) fit are (suc n) = completed_below actors (suc word) words fit (λ m. are (suc m)) n
