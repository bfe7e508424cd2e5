-- the bits of a lock's word: the lowest six name its holder, and each actor's request is a bit of
-- its own
use Rattle.std.proofs.Common.{◌≡◌, ◌≢◌, ℕ, suc, ◌+◌, ◌-◌, ◌*◌, ◌^◌, ◌%◌, ◌<◌, ◌≤◌, ◌⊎◌, Bool, true, false, inl, inr, sym, refl, ap, ◌∙◌, arith, bit_and, bit_or}
use Rattle.std.proofs.Common.{pow-add, pow_mono, mod-eq_of_lt, mod-lt, ◌==◌, min, w64, eqb-true}
use Rattle.std.{specs.Int.{bit_at, Bits.{or_zero_l, or_zero_r, and_lt}}, proofs.{Math.Nat.mul-mod_right, lemmas.Nat.{or_mod, and_mod, and_mask, or_lt}}}
use Rattle.std.proofs.lemmas.Nat.Bits.{bit_at_or, bit_at_and, bit_at-pow_same, bit_at-pow_other, bit_at-lt, bit_at_not, bit_at_above}
use Rattle.std.proofs.lemmas.Bool.{cases_lt, eqb-false}
use Rattle.turns.{specs.{Sharing.{AddsNone, AddsOnly, Clears, KeepsOthers}, Sharings.{IsLockWord, preferring, request_bit, seized_by}}, proofs.Lists.one_or_two}

-- a word without actor k's request, and one without its holder
abbrev without : ℕ → ℕ → ℕ
without k word = bit_and word (2 ^ 64 - 1 - request_bit k)

abbrev unheld : ℕ → ℕ
unheld word = bit_and word (2 ^ 64 - 1 - 63)

-- the bits of a lock's word that may be set
abbrev IsOwn : ℕ → Type 0
IsOwn i = (i < 6) ⊎ ((8 ≤ i) × (i < 56))

-- a request bit is above the lowest six bits
request_high : (k : ℕ) → request_bit k ≡ 2 ^ 6 * 2 ^ (2 + k)
request_high k = let e : 8 + k ≡ 6 + (2 + k) = omega arith in ap (λ (n : ℕ). 2 ^ n) e ∙ pow-add 2 6 (2 + k)

request_below : (k : ℕ) → k < 48 → request_bit k < 2 ^ 64
request_below k few = let x : 2 ^ (8 + k) ≤ 2 ^ 55 = pow_mono {i = 8 + k} {j = 55} (omega arith) in omega arith

request_mod : (k : ℕ) → request_bit k % 2 ^ 6 ≡ 0
request_mod k = ap (λ (n : ℕ). n % 2 ^ 6) (request_high k) ∙ mul-mod_right (2 ^ 6) (2 ^ (2 + k))

mask_mod : (k : ℕ) → k < 48 → (2 ^ 64 - 1 - request_bit k) % 2 ^ 6 ≡ 63
mask_mod k few =
    let x : 2 ^ (2 + k) ≤ 2 ^ 50 = pow_mono {i = 2 + k} {j = 50} (omega arith) in
    let e = request_high k in
    omega arith

-- the holder of a word with a request, without one, once it is taken, and once it is freed
pub asked_holder : (k word : ℕ) → bit_or word (request_bit k) % 64 ≡ word % 64
asked_holder k word = or_mod word (request_bit k) 6 ∙ ap (bit_or (word % 2 ^ 6)) (request_mod k) ∙ or_zero_r (word % 2 ^ 6)

pub without_holder : (k word : ℕ) → k < 48 → without k word % 64 ≡ word % 64
without_holder k word few =
    and_mod word (2 ^ 64 - 1 - request_bit k) 6 ∙ ap (bit_and (word % 2 ^ 6)) (mask_mod k few) ∙ and_mask (word % 2 ^ 6) 6
    ∙ mod-eq_of_lt (mod-lt word {m = 2 ^ 6} (omega arith))

pub taken_holder : (k word : ℕ) → k < 48 → word % 64 ≡ 0 → seized_by k word % 64 ≡ suc k
taken_holder k word few free =
    let low : (1 + k) % 2 ^ 6 ≡ 1 + k = mod-eq_of_lt (omega arith) in
    let one : 1 + k ≡ suc k = omega arith in
    or_mod (without k word) (1 + k) 6 ∙
    ap (λ (n : ℕ). bit_or n ((1 + k) % 2 ^ 6)) (without_holder k word few ∙ free) ∙ or_zero_l ((1 + k) % 2 ^ 6) ∙ low ∙ one

pub unheld_holder : (word : ℕ) → unheld word % 64 ≡ 0
unheld_holder word = and_mod word (2 ^ 64 - 1 - 63) 6 ∙ and_mask (word % 2 ^ 6) 0 ∙ omega arith

-- single bits of them
without_bit : (k word i : ℕ) → k < 48 → i < 64 → bit_at (without k word) i ≡ min (bit_at word i) (1 - bit_at (request_bit k) i)
without_bit k word i few within =
    bit_at_and word (2 ^ 64 - 1 - request_bit k) i ∙ ap (min (bit_at word i)) (bit_at_not w64 (request_bit k) i (request_below k few) within)

without_same : (k word : ℕ) → k < 48 → bit_at (without k word) (8 + k) ≡ 0
without_same k word few = omega (arith, without_bit k word (8 + k) few (omega arith), bit_at-pow_same (8 + k))

without_other : (k word i : ℕ) → k < 48 → i < 64 → i ≢ 8 + k → bit_at (without k word) i ≡ bit_at word i
without_other k word i few within other = omega (arith, without_bit k word i few within, bit_at-pow_other (8 + k) i other, bit_at-lt word i)

without_set : (k word i : ℕ) → bit_at (without k word) i ≡ 1 → bit_at word i ≡ 1
without_set k word i set = omega (arith, bit_at_and word (2 ^ 64 - 1 - request_bit k) i, bit_at-lt word i)

taken_bit : (k word i : ℕ) → k < 48 → 6 ≤ i → bit_at (seized_by k word) i ≡ bit_at (without k word) i
taken_bit k word i few above = omega (arith, bit_at_or (without k word) (1 + k) i, bit_at_above (1 + k) 6 i (omega arith) above)

unheld_bit : (word i : ℕ) → 6 ≤ i → i < 64 → bit_at (unheld word) i ≡ bit_at word i
unheld_bit word i above within =
    let low : bit_at 63 i ≡ 0 = bit_at_above 63 6 i (omega arith) above in
    omega (arith, bit_at_and word (2 ^ 64 - 1 - 63) i, bit_at_not w64 63 i (omega arith) within, low, bit_at-lt word i)

unheld_set : (word i : ℕ) → bit_at (unheld word) i ≡ 1 → bit_at word i ≡ 1
unheld_set word i set = omega (arith, bit_at_and word (2 ^ 64 - 1 - 63) i, bit_at-lt word i)

-- the requests of others, once one is made, withdrawn, or taken, and all of them once the lock is
-- freed
asked_other : (k word j : ℕ) → j ≢ k → bit_at (bit_or word (request_bit k)) (8 + j) ≡ bit_at word (8 + j)
asked_other k word j apart =
    let none : bit_at (request_bit k) (8 + j) ≡ 0 = bit_at-pow_other (8 + k) (8 + j) (λ same. apart (omega arith)) in
    omega (arith, bit_at_or word (request_bit k) (8 + j), none)

without_request : (k word j : ℕ) → k < 48 → j < 48 → j ≢ k → bit_at (without k word) (8 + j) ≡ bit_at word (8 + j)
without_request k word j few below apart = without_other k word (8 + j) few (omega arith) (λ same. apart (omega arith))

taken_request : (k word j : ℕ) → k < 48 → bit_at (seized_by k word) (8 + j) ≡ bit_at (without k word) (8 + j)
taken_request k word j few = taken_bit k word (8 + j) few (omega arith)

unheld_request : (word j : ℕ) → j < 48 → bit_at (unheld word) (8 + j) ≡ bit_at word (8 + j)
unheld_request word j below = unheld_bit word (8 + j) (omega arith) (omega arith)

-- no other request is new, nor is one that was withdrawn or taken still there
pub asked_requests : (k word : ℕ) → AddsOnly preferring k word (bit_or word (request_bit k))
asked_requests k word j below valid = elim (one_or_two j k) [
  | inl one ↦ inl one
  | inr apart ↦ inr (sym (ap (λ n. n == 1) (asked_other k word j apart)) ∙ valid)
]

pub without_requests : (k word : ℕ) → k < 48 → Clears preferring k word (without k word)
without_requests k word few j below valid = (apart, sym (ap (λ n. n == 1) (without_request k word j few below apart)) ∙ valid) where
  apart : j ≢ k
  apart one =
      let clear : bit_at (without k word) (8 + j) ≡ 0 = ap (λ n. bit_at (without k word) (8 + n)) one ∙ without_same k word few in
      let set : bit_at (without k word) (8 + j) ≡ 1 = eqb-true (bit_at (without k word) (8 + j)) 1 valid in
      absurd (omega (arith, clear, set))

pub taken_requests : (k word : ℕ) → k < 48 → Clears preferring k word (seized_by k word)
taken_requests k word few j below valid = without_requests k word few j below (sym (ap (λ n. n == 1) (taken_request k word j few)) ∙ valid)

pub unheld_requests : (word : ℕ) → AddsNone preferring word (unheld word)
unheld_requests word j below valid = sym (ap (λ n. n == 1) (unheld_request word j below)) ∙ valid

-- a request that was made is in the word, and so are those of others
pub asked_own : (k word : ℕ) → preferring.requests k (bit_or word (request_bit k)) ≡ true
asked_own k word =
    let set : bit_at (bit_or word (request_bit k)) (8 + k) ≡ 1 =
    omega (arith, bit_at_or word (request_bit k) (8 + k), bit_at-pow_same (8 + k), bit_at-lt word (8 + k)) in
    ap (λ n. n == 1) set

pub asked_others : (k word : ℕ) → KeepsOthers preferring k word (bit_or word (request_bit k))
asked_others k word j below apart stood = ap (λ n. n == 1) (asked_other k word j apart) ∙ stood

pub without_others : (k word : ℕ) → k < 48 → KeepsOthers preferring k word (without k word)
without_others k word few j below apart stood = ap (λ n. n == 1) (without_request k word j few below apart) ∙ stood

pub taken_others : (k word : ℕ) → k < 48 → KeepsOthers preferring k word (seized_by k word)
taken_others k word few j below apart stood = ap (λ n. n == 1) (taken_request k word j few) ∙ without_others k word few j below apart stood

pub unheld_others : (word : ℕ) → AddsNone preferring (unheld word) word
unheld_others word j below stood = ap (λ n. n == 1) (unheld_request word j below) ∙ stood

-- each of them is a lock's word
pub asked_is : (k word : ℕ) → k < 48 → IsLockWord word → IsLockWord (bit_or word (request_bit k))
asked_is k word few is = record {
  holder = omega (arith, is.holder, asked_holder k word);
  bits = λ i set. at i set (i == 8 + k) refl;
  below = or_lt 64 word (request_bit k) is.below (request_below k few);
} where
  at : (i : ℕ) → bit_at (bit_or word (request_bit k)) i ≡ 1 → (b : Bool) → (i == 8 + k) ≡ b → IsOwn i
  at i set true e = let own : i ≡ 8 + k = eqb-true i (8 + k) e in inr (omega arith, omega arith)
  at i set false e =
      let none : bit_at (request_bit k) i ≡ 0 = bit_at-pow_other (8 + k) i (eqb-false i (8 + k) e) in
      is.bits i (omega (arith, bit_at_or word (request_bit k) i, none))

pub without_is : (k word : ℕ) → k < 48 → IsLockWord word → IsLockWord (without k word)
without_is k word few is = record {
  holder = omega (arith, is.holder, without_holder k word few);
  bits = λ i set. is.bits i (without_set k word i set);
  below = and_lt 64 word (2 ^ 64 - 1 - request_bit k) is.below (omega arith);
}

pub taken_is : (k word : ℕ) → k < 48 → IsLockWord word → word % 64 ≡ 0 → IsLockWord (seized_by k word)
taken_is k word few is free = record {
  holder = omega (arith, taken_holder k word few free);
  bits = λ i set. at i set (cases_lt i 6);
  below = or_lt 64 (without k word) (1 + k) (without_is k word few is).below (omega arith);
} where
  at : (i : ℕ) → bit_at (seized_by k word) i ≡ 1 → (i < 6) ⊎ (6 ≤ i) → IsOwn i
  at i set (inl low) = inl low
  at i set (inr above) = is.bits i (without_set k word i (sym (taken_bit k word i few above) ∙ set))

pub unheld_is : (word : ℕ) → IsLockWord word → IsLockWord (unheld word)
unheld_is word is = record {
  holder = omega (arith, unheld_holder word);
  bits = λ i set. is.bits i (unheld_set word i set);
  below = and_lt 64 word (2 ^ 64 - 1 - 63) is.below (omega arith);
}
