-- the lowest free slot
use Rattle.std.proofs.Common.{◌≡◌, ℕ, zero, suc, ◌+◌, ◌<◌, ◌≤◌, Bool, true, false, List, [], ◌∷◌, inl, inr, refl, sym, ◌∙◌, ap, arith, ◌==◌, ◌||◌, Option, Some}
use Rattle.std.proofs.Common.{None, option_to_list, if◌then◌else◌, eqb-true}
use Rattle.{std.specs.Prelude.⊤, turns.proofs.Lists.one_or_two}
use Rattle.slots.specs.{declared.bank.TheConstants.{BANK_SIZE, SLOT_COUNT}, Slots.{Busy, with_slot, lowest_free, both_of}}

abbrev pub or_first : Option ℕ → Option ℕ → Option ℕ
or_first (Some slot) other = Some slot
or_first None other = other

first_of : (t : Bool) (from : ℕ) (all first last : Option ℕ) → all ≡ or_first first last
    → (if t then all else Some from) ≡ or_first (if t then first else Some from) last
first_of true from all first last e = e
first_of false from all first last e = refl

-- the lowest of `a + b` slots is the lowest of the first `a`, or else of the last `b`
pub lowest_split : (busy : Busy) (from a b : ℕ) → lowest_free busy from (a + b) ≡ or_first (lowest_free busy from a) (lowest_free busy (from + a) b)
unfolding lowest_free
lowest_split busy from zero b =
    let none : zero + b ≡ b = omega arith in
    let same : from ≡ from + zero = omega arith in
    ap (lowest_free busy from) none ∙ ap (λ (n : ℕ). lowest_free busy n b) same
lowest_split busy from (suc a) b =
    let one : suc a + b ≡ suc (a + b) = omega arith in
    let same : suc from + a ≡ from + suc a = omega arith in
    ap (lowest_free busy from) one
    ∙ first_of (busy from) from (lowest_free busy (suc from) (a + b)) (lowest_free busy (suc from) a) (lowest_free busy (from + suc a) b)
    (lowest_split busy (suc from) a b ∙ ap (λ (n : ℕ). or_first (lowest_free busy (suc from) a) (lowest_free busy n b)) same)

-- if two sets agree on these slots, they have the same lowest free slot
pub lowest_same : (a b : Busy) (slot count : ℕ) → ((s : ℕ) → slot ≤ s → s < slot + count → a s ≡ b s) → lowest_free a slot count ≡ lowest_free b slot count
unfolding lowest_free
lowest_same a b slot zero same = refl
lowest_same a b slot (suc count) same =
    ap (λ (t : Bool). if t then lowest_free a (suc slot) count else Some slot) (same slot (omega arith) (omega arith))
    ∙ ap (λ (o : Option ℕ). if b slot then o else Some slot) (lowest_same a b (suc slot) count (λ s from below. same s (omega arith) (omega arith)))

-- a slot that was found is one of those asked for, and free
pub record IsFound (busy : Busy) (from count slot : ℕ) : Type 0 where
  pub above : from ≤ slot
  pub below : slot < from + count
  pub free : busy slot ≡ false

found_by : (busy : Busy) (from count slot : ℕ) (b : Bool) → busy from ≡ b → (lowest_free busy (suc from) count ≡ Some slot → IsFound busy (suc from) count slot)
    → (if b then lowest_free busy (suc from) count else Some from) ≡ Some slot → IsFound busy from (suc count) slot
found_by busy from count slot false e later is = let one : from ≡ slot = cc in record { above = omega arith; below = omega arith; free = ap busy (sym one) ∙ e }
found_by busy from count slot true e later is = let f = later is in record { above = omega (arith, f.above); below = omega (arith, f.below); free = f.free }

pub lowest_found : (busy : Busy) (from count slot : ℕ) → lowest_free busy from count ≡ Some slot → IsFound busy from count slot
unfolding lowest_free
lowest_found busy from zero slot e = absurd cc
lowest_found busy from (suc count) slot e = found_by busy from count slot (busy from) refl (lowest_found busy (suc from) count slot) e

-- the first slot that is free is the lowest, and if none is free there is no lowest
pub lowest_is : (busy : Busy) (from count slot : ℕ) → from ≤ slot → slot < from + count → ((s : ℕ) → from ≤ s → s < slot → busy s ≡ true) → busy slot ≡ false
    → lowest_free busy from count ≡ Some slot
unfolding lowest_free
lowest_is busy from zero slot above below taken free = absurd (omega arith)
lowest_is busy from (suc count) slot above below taken free = elim (one_or_two from slot) [
  | inl here ↦ ap (λ (t : Bool). if t then lowest_free busy (suc from) count else Some from) (ap busy here ∙ free) ∙ ap (λ (n : ℕ). Some n) here
  | inr later ↦ ap (λ (t : Bool). if t then lowest_free busy (suc from) count else Some from) (taken from (omega arith) (omega arith))
      ∙ lowest_is busy (suc from) count slot (omega arith) (omega arith) (λ s low high. taken s (omega arith) high) free
]

pub lowest_none : (busy : Busy) (from count : ℕ) → ((s : ℕ) → from ≤ s → s < from + count → busy s ≡ true) → lowest_free busy from count ≡ None
unfolding lowest_free
lowest_none busy from zero taken = refl
lowest_none busy from (suc count) taken =
    ap (λ (t : Bool). if t then lowest_free busy (suc from) count else Some from) (taken from (omega arith) (omega arith))
    ∙ lowest_none busy (suc from) count (λ s low high. taken s (omega arith) (omega arith))

-- slots that are free, each also once those before it are taken
abbrev pub AreFree : Busy → List ℕ → Type 0
AreFree busy [] = ⊤
AreFree busy (slot ∷ slots) = (slot < SLOT_COUNT) × (busy slot ≡ false) × AreFree (with_slot busy slot) slots

pub one_free : (busy : Busy) (from count : ℕ) (o : Option ℕ) → from + count ≤ SLOT_COUNT → lowest_free busy from count ≡ o → AreFree busy (option_to_list o)
one_free busy from count None fits e = tt
one_free busy from count (Some slot) fits e = let f = lowest_found busy from count slot e in (omega (arith, f.below), f.free, tt)

pub both_free : (busy : Busy) (lower upper : Option ℕ) → lowest_free busy 0 BANK_SIZE ≡ lower → lowest_free busy BANK_SIZE BANK_SIZE ≡ upper
    → AreFree busy (both_of lower upper)
both_free busy None upper el eu = tt
both_free busy (Some a) None el eu = tt
both_free busy (Some a) (Some b) el eu =
    let f = lowest_found busy 0 BANK_SIZE a el in
    let g = lowest_found busy BANK_SIZE BANK_SIZE b eu in
    (omega (arith, f.below), f.free, (omega (arith, g.below), apart (b == a) refl f.below g.above g.free, tt)) where
      apart : (t : Bool) → (b == a) ≡ t → a < 0 + BANK_SIZE → BANK_SIZE ≤ b → busy b ≡ false → (t || busy b) ≡ false
      apart true e low high free = let one : b ≡ a = eqb-true b a e in absurd (omega arith)
      apart false e low high free = free
