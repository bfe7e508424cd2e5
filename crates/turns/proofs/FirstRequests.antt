-- the first of the requests in a lock's word
use Rattle.std.proofs.Common.{◌≡◌, ℕ, zero, suc, ◌+◌, ◌-◌, ◌*◌, ◌^◌, ◌<◌, ◌≤◌, Bool, true, false, bit_and, pow_mono, mod-eq_of_lt, inl, inr, sym, refl, ◌∙◌, ap}
use Rattle.std.proofs.Common.{arith, ◌==◌, ◌%◌, Option, Some, None, if◌then◌else◌, w64}
use Rattle.std.proofs.lemmas.{Bool.cases_lt, Nat.{and_le_l, Bits.{bit_at_and, bit_at-lt, bit_at-zero, bit_at-trailing_zeros, bit_at_mask_above}}}
use Rattle.{std.{proofs.lemmas.Nat.Bits.{bit_at_mask_below, bit_at_mask_inside}, specs.Int.{bit_at, trailing_zeros}}, turns.specs.Sharing.IsTrueOf}
use Rattle.turns.specs.{Sharings.{first_request, lower_request, by_request, by_holder, judged, preferring}, declared.judgement.Judgement.TheVariants.Free}

-- whether the word has actor k's request
abbrev valid : ℕ → ℕ → Bool
valid word k = bit_at word (8 + k) == 1

-- the first one found is in the word, and is one of those searched for
abbrev IsFound : ℕ → ℕ → ℕ → Option ℕ → Type 0
IsFound word j count None = Unit {0}
IsFound word j count (Some other) = (other < j + count) × (valid word other ≡ true)

later_found : (word j count : ℕ) (found : Option ℕ) → IsFound word (suc j) count found → IsFound word j (suc count) found
later_found word j count None is = tt
later_found word j count (Some other) is = (omega (arith, is.0), is.1)

here_found : (word j count : ℕ) (b : Bool) → valid word j ≡ b → IsFound word (suc j) count (first_request word (suc j) count)
    → IsFound word j (suc count) (if b then Some j else first_request word (suc j) count)
here_found word j count true e later = (omega arith, e)
here_found word j count false e later = later_found word j count (first_request word (suc j) count) later

first_found : (word j count : ℕ) → IsFound word j count (first_request word j count)
first_found word j zero = tt
first_found word j (suc count) = here_found word j count (valid word j) refl (first_found word (suc j) count)

-- there is none: none is found
pub none_found : (word j count : ℕ) → ((i : ℕ) → j ≤ i → i < j + count → valid word i ≡ false) → first_request word j count ≡ None
none_found word j zero none = refl
none_found word j (suc count) none =
    ap (λ (b : Bool). if b then Some j else first_request word (suc j) count) (none j (omega arith) (omega arith))
    ∙ none_found word (suc j) count (λ i from below. none i (omega arith) (omega arith))

-- there is one, and none before it: it is found
pub one_found : (word j count step : ℕ) → step < count → valid word (j + step) ≡ true → ((i : ℕ) → j ≤ i → i < j + step → valid word i ≡ false)
    → first_request word j count ≡ Some (j + step)
one_found word j zero step below one none = absurd (omega arith)
one_found word j (suc count) zero below one none =
    let here : j + 0 ≡ j = omega arith in
    ap (λ (b : Bool). if b then Some j else first_request word (suc j) count) (ap (valid word) (sym here) ∙ one) ∙ ap Some (sym here)
one_found word j (suc count) (suc step) below one none =
    let next : j + suc step ≡ suc j + step = omega arith in
    ap (λ (b : Bool). if b then Some j else first_request word (suc j) count) (none j (omega arith) (omega arith))
    ∙ one_found word (suc j) count step (omega arith) (ap (valid word) (sym next) ∙ one) (λ i from until. none i (omega arith) (omega arith))
    ∙ ap Some (sym next)

pub lower_none : (k word : ℕ) → ((i : ℕ) → i < k → valid word i ≡ false) → lower_request k word ≡ None
unfolding lower_request
lower_none k word none = none_found word 0 k (λ i from below. none i (omega arith))

pub lower_found : (k word other : ℕ) → other < k → valid word other ≡ true → ((i : ℕ) → i < other → valid word i ≡ false) → lower_request k word ≡ Some other
unfolding lower_request
lower_found k word other below one none =
    let same : 0 + other ≡ other = omega arith in
    one_found word 0 k other below (ap (valid word) same ∙ one) (λ i from until. none i (omega arith)) ∙ ap Some same

-- the requests of the actors below this one, as a mask leaves them
abbrev pub masked : ℕ → ℕ → ℕ
masked k word = bit_and word (2 ^ (8 + k) - 2 ^ 8)

-- the bit above them fits a word
pub shifted : (k : ℕ) → k < 48 → 1 * 2 ^ (8 + k) % 2 ^ 64 ≡ 2 ^ (8 + k)
shifted k few = let high = pow_mono {i = 8 + k} {j = 55} (omega arith) in let one : 1 * 2 ^ (8 + k) ≡ 2 ^ (8 + k) = omega arith in
    ap (λ (n : ℕ). n % 2 ^ 64) one ∙ mod-eq_of_lt (omega (arith, high))

pub shifted_from : (k : ℕ) → k < 48 → 256 ≤ 1 * 2 ^ (8 + k) % 2 ^ 64
shifted_from k few = let low = pow_mono {i = 8} {j = 8 + k} (omega arith) in omega (arith, shifted k few, low)

-- a bit that the mask leaves is a request of one of them
masked_from : (k word i : ℕ) → bit_at (masked k word) i ≡ 1 → 8 ≤ i
masked_from k word i set = elim (cases_lt i 8) [
  | inl below ↦ let none = bit_at_mask_below 8 (8 + k) i below in let both = bit_at_and word (2 ^ (8 + k) - 2 ^ 8) i in absurd (omega (arith, set, none, both))
  | inr from ↦ from
]

masked_until : (k word i : ℕ) → bit_at (masked k word) i ≡ 1 → i < 8 + k
masked_until k word i set = elim (cases_lt i (8 + k)) [
  | inl below ↦ below
  | inr from ↦ let none = bit_at_mask_above 8 (8 + k) i from in let both = bit_at_and word (2 ^ (8 + k) - 2 ^ 8) i in absurd (omega (arith, set, none, both))
]

masked_is : (k word i : ℕ) → i < k → bit_at (masked k word) (8 + i) ≡ bit_at word (8 + i)
masked_is k word i below =
    let inside = bit_at_mask_inside 8 (8 + k) (8 + i) (omega arith) (omega arith) in
    let both = bit_at_and word (2 ^ (8 + k) - 2 ^ 8) (8 + i) in
    omega (arith, inside, both, bit_at-lt word (8 + i))

masked_fits : (k word : ℕ) → word < 2 ^ 64 → masked k word < 2 ^ 64
masked_fits k word fits = omega (arith, and_le_l word (2 ^ (8 + k) - 2 ^ 8), fits)

-- nothing is left: nobody below requests the lock
pub masked_none : (k word : ℕ) → masked k word ≡ 0 → lower_request k word ≡ None
masked_none k word none = lower_none k word (λ i below.
    let zero_bit : bit_at word (8 + i) ≡ 0 = sym (masked_is k word i below) ∙ ap (λ (n : ℕ). bit_at n (8 + i)) none ∙ bit_at-zero (8 + i) in
    ap (λ (n : ℕ). n == 1) zero_bit)

-- otherwise its lowest bit is the request of the lowest that does
pub masked_first : (k word : ℕ) → word < 2 ^ 64 → 0 < masked k word
    → (8 ≤ trailing_zeros w64 (masked k word)) × (lower_request k word ≡ Some (trailing_zeros w64 (masked k word) - 8))
masked_first k word fits some =
    let low = masked k word in
    let first = bit_at-trailing_zeros w64 low some (masked_fits k word fits) in
    let t = trailing_zeros w64 low in
    let from = masked_from k word t first.1 in
    let until = masked_until k word t first.1 in
    let at : 8 + (t - 8) ≡ t = omega (arith, from) in (
      from,
      lower_found k word (t - 8) (omega (arith, from, until))
          (ap (λ (n : ℕ). n == 1) (sym (masked_is k word (t - 8) (omega (arith, from, until))) ∙ ap (bit_at low) at ∙ first.1))
          (λ i below. ap (λ (n : ℕ). n == 1) (sym (masked_is k word i (omega (arith, below, until))) ∙ first.2 (8 + i) (omega (arith, below, from)))),
    )

-- the judgement of a lock's word is true
true_by_request : (k word : ℕ) (found : Option ℕ) → word % 64 ≡ 0 → IsFound word 0 k found → IsTrueOf preferring k word (by_request found)
true_by_request k word None free found = free
true_by_request k word (Some other) free found = (omega (arith, found.0), free, found.1)

true_by_holder : (k word holder : ℕ) (found : Option ℕ) → word % 64 ≡ holder → IsFound word 0 k found → IsTrueOf preferring k word (by_holder holder found)
true_by_holder k word zero found e is = true_by_request k word found e is
true_by_holder k word (suc holder) found e is = e

pub judged_true : (k word : ℕ) → IsTrueOf preferring k word (judged k word)
unfolding judged lower_request
judged_true k word = true_by_holder k word (word % 64) (first_request word 0 k) refl (first_found word 0 k)

-- an actor may go on if it alone requests a lock that nobody holds
pub alone_free : (k word : ℕ) → k < 48 → word % 64 ≡ 0 → ((j : ℕ) → j < 48 → valid word j ≡ true → j ≡ k) → judged k word ≡ Free
unfolding judged
alone_free k word few free alone =
    ap (λ holder. by_holder holder (lower_request k word)) free ∙ ap by_request (lower_none k word (λ i below. none i below (valid word i) refl)) where
      none : (i : ℕ) → i < k → (b : Bool) → valid word i ≡ b → valid word i ≡ false
      none i below false e = e
      none i below true e = let same : i ≡ k = alone i (omega arith) e in absurd (omega arith)
