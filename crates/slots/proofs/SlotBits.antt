-- a slot's bit in its bank's word
use Rattle.std.proofs.Common.{◌≡◌, ◌≢◌, ℕ, ◌+◌, ◌-◌, ◌*◌, ◌/◌, ◌%◌, ◌^◌, ◌<◌, ◌≤◌, ◌⊎◌, Bool, true, false, List, [], ◌∷◌, length, slice_index, slice_set}
use Rattle.std.proofs.Common.{length-set, inl, inr, refl, sym, ◌∙◌, ap, arith, pow_mono, bit_and, bit_or, ◌==◌, ◌||◌, ◌&&◌, None, Some, not, map, min, w64}
use Rattle.std.proofs.Common.{eqb-true}
use Rattle.std.{specs.Int.{bit_at, trailing_ones}, proofs.lemmas.Nat.and_le_r}
use Rattle.std.proofs.lemmas.Nat.Bits.{bit_at_or, bit_at_and, bit_at_not, bit_at-pow_same, bit_at-pow_other, bit_at-lt, bit_at_ones, bit_at-trailing_ones}
use Rattle.{std.proofs.lemmas.Bool.eqb-false, turns.{specs.System.{perform, perform_all, AreDue}, proofs.Lists.{one_or_two, index_same, index_other}}}
use Rattle.slots.specs.declared.{bank.TheConstants.{BANK_SIZE, SLOT_COUNT}, effect.Effect.TheVariants.{Mark, Clear}}
use Rattle.slots.{specs.{Slots.{Busy, with_slot, with_slots, without_slot}, System.{Shows, free_in, slots}}, proofs.FreeSlots.{AreFree, lowest_is, lowest_none}}

-- a word with one of its lowest 32 bits set to a value, and the others as they were
record IsOneBit (word place value after : ℕ) : Type 0 where
  here : bit_at after place ≡ value
  others : (p : ℕ) → p < BANK_SIZE → p ≢ place → bit_at after p ≡ bit_at word p

marked : (word place : ℕ) → place < BANK_SIZE → IsOneBit word place 1 (bit_or word (2 ^ place))
marked word place few = record {
  here = omega (arith, bit_at_or word (2 ^ place) place, bit_at-pow_same place, bit_at-lt word place);
  others = λ p low other. omega (arith, bit_at_or word (2 ^ place) p, bit_at-pow_other place p other);
}

-- the bit of a place below 32 fits into a word
pub place_below : (place : ℕ) → place < BANK_SIZE → 2 ^ place < 2 ^ 64
place_below place few = let x : 2 ^ place ≤ 2 ^ 31 = pow_mono {i = place} {j = 31} (omega arith) in omega arith

cleared : (word place : ℕ) → place < BANK_SIZE → IsOneBit word place 0 (bit_and word (2 ^ 64 - 1 - 2 ^ place))
cleared word place few = record {
  here = omega (arith, bit place few, bit_at-pow_same place);
  others = λ p low other. omega (arith, bit p low, bit_at-pow_other place p other, bit_at-lt word p);
} where
  bit : (p : ℕ) → p < BANK_SIZE → bit_at (bit_and word (2 ^ 64 - 1 - 2 ^ place)) p ≡ min (bit_at word p) (1 - bit_at (2 ^ place) p)
  bit p low = bit_at_and word (2 ^ 64 - 1 - 2 ^ place) p ∙ ap (min (bit_at word p)) (bit_at_not w64 (2 ^ place) p (place_below place few) (omega arith))

-- the bits of a bank's slots in its word
abbrev pub low_bits : ℕ → ℕ
low_bits word = bit_and word (2 ^ 32 - 1)

low_bit : (word place : ℕ) → place < BANK_SIZE → bit_at (low_bits word) place ≡ bit_at word place
low_bit word place few = omega (arith, bit_at_and word (2 ^ 32 - 1) place, bit_at_ones 32 place few, bit_at-lt word place)

low_fits : (word : ℕ) → low_bits word + 1 < 2 ^ 64
low_fits word = let small = and_le_r word (2 ^ 32 - 1) in omega (arith, small)

-- the slots before the lowest 0 of the word are taken, and that one is free
module _ (bank word : ℕ) (two : bank < 2) where
  abbrev pub lowest_zero : ℕ
  lowest_zero = trailing_ones w64 (low_bits word)

  first_zero : (lowest_zero < 64) × (bit_at (low_bits word) lowest_zero ≡ 0) × ((i : ℕ) → i < lowest_zero → bit_at (low_bits word) i ≡ 1)
  first_zero = bit_at-trailing_ones w64 (low_bits word) (low_fits word)

  abbrev taken_in : Busy
  taken_in s = bit_at word (s % BANK_SIZE) == 1

  taken_before : (s : ℕ) → BANK_SIZE * bank ≤ s → s < BANK_SIZE * bank + BANK_SIZE → s < BANK_SIZE * bank + lowest_zero → taken_in s ≡ true
  taken_before s from within before =
      let few : s % BANK_SIZE < BANK_SIZE = omega arith in
      let one = first_zero.2 (s % BANK_SIZE) (omega (arith, from, within, before)) in
      ap (λ (n : ℕ). n == 1) (sym (low_bit word (s % BANK_SIZE) few) ∙ one)

  pub zero_free : lowest_zero < BANK_SIZE → free_in bank word ≡ Some (BANK_SIZE * bank + lowest_zero)
  zero_free few =
      let place : (BANK_SIZE * bank + lowest_zero) % BANK_SIZE ≡ lowest_zero = omega (arith, few) in
      lowest_is taken_in (BANK_SIZE * bank) BANK_SIZE (BANK_SIZE * bank + lowest_zero) (omega arith) (omega (arith, few))
      (λ s from before. taken_before s from (omega (arith, few, before)) before)
      (ap (λ (n : ℕ). bit_at word n == 1) place ∙ ap (λ (n : ℕ). n == 1) (sym (low_bit word lowest_zero few) ∙ first_zero.1))

  pub zero_none : BANK_SIZE ≤ lowest_zero → free_in bank word ≡ None
  zero_none all = lowest_none taken_in (BANK_SIZE * bank) BANK_SIZE (λ s from within. taken_before s from within (omega (arith, all, within)))

module _ (words : List ℕ) (long : length words ≡ 5) (slot : ℕ) (below : slot < SLOT_COUNT) (value after : ℕ)
    (one : IsOneBit (slice_index words (slot / BANK_SIZE)) (slot % BANK_SIZE) value after) where
  -- the slot's bit, and that of another slot, once the word is set
  bit_here : (s : ℕ) → s ≡ slot → bit_at (slice_index (slice_set words (slot / BANK_SIZE) after) (s / BANK_SIZE)) (s % BANK_SIZE) ≡ value
  bit_here s same =
      ap (λ (t : ℕ). bit_at (slice_index (slice_set words (slot / BANK_SIZE) after) (t / BANK_SIZE)) (t % BANK_SIZE)) same
      ∙ ap (λ (n : ℕ). bit_at n (slot % BANK_SIZE)) (index_same words (slot / BANK_SIZE) after (omega arith)) ∙ one.here

  bit_else : (s : ℕ) → s < SLOT_COUNT → s ≢ slot
      → bit_at (slice_index (slice_set words (slot / BANK_SIZE) after) (s / BANK_SIZE)) (s % BANK_SIZE)
      ≡ bit_at (slice_index words (s / BANK_SIZE)) (s % BANK_SIZE)
  bit_else s low other = at (one_or_two (s / BANK_SIZE) (slot / BANK_SIZE)) where
    at : (s / BANK_SIZE ≡ slot / BANK_SIZE) ⊎ (s / BANK_SIZE ≢ slot / BANK_SIZE)
        → bit_at (slice_index (slice_set words (slot / BANK_SIZE) after) (s / BANK_SIZE)) (s % BANK_SIZE)
        ≡ bit_at (slice_index words (s / BANK_SIZE)) (s % BANK_SIZE)
    at (inl bank) =
        let apart : s % BANK_SIZE ≢ slot % BANK_SIZE = λ place. other (omega arith) in
        ap (λ (n : ℕ). bit_at (slice_index (slice_set words (slot / BANK_SIZE) after) n) (s % BANK_SIZE)) bank
        ∙ ap (λ (n : ℕ). bit_at n (s % BANK_SIZE)) (index_same words (slot / BANK_SIZE) after (omega arith))
        ∙ one.others (s % BANK_SIZE) (omega arith) apart
        ∙ ap (λ (n : ℕ). bit_at (slice_index words n) (s % BANK_SIZE)) (sym bank)
    at (inr apart) = ap (λ (n : ℕ). bit_at n (s % BANK_SIZE)) (index_other words (slot / BANK_SIZE) (s / BANK_SIZE) after apart)

-- a slot is marked: the words show the set with it
pub shows_mark : (words : List ℕ) (busy : Busy) (slot : ℕ) → length words ≡ 5 → slot < SLOT_COUNT → Shows words busy
    → Shows (perform slots words (Mark slot)) (with_slot busy slot)
shows_mark words busy slot long below shows = record { bits = λ s low. at s low (s == slot) refl } where
  one : IsOneBit (slice_index words (slot / BANK_SIZE)) (slot % BANK_SIZE) 1 (bit_or (slice_index words (slot / BANK_SIZE)) (2 ^ (slot % BANK_SIZE)))
  one = marked (slice_index words (slot / BANK_SIZE)) (slot % BANK_SIZE) (omega arith)

  at : (s : ℕ) → s < SLOT_COUNT → (b : Bool) → (s == slot) ≡ b
      → (b || busy s) ≡ (bit_at (slice_index (perform slots words (Mark slot)) (s / BANK_SIZE)) (s % BANK_SIZE) == 1)
  at s low true e =
      sym (ap (λ (n : ℕ). n == 1) (bit_here words long slot below 1 (bit_or (slice_index words (slot / BANK_SIZE)) (2 ^ (slot % BANK_SIZE))) one s
      (eqb-true s slot e)))
  at s low false e =
      shows.bits s low
      ∙ sym (ap (λ (n : ℕ). n == 1) (bit_else words long slot below 1 (bit_or (slice_index words (slot / BANK_SIZE)) (2 ^ (slot % BANK_SIZE))) one s low
      (eqb-false s slot e)))

-- a slot is cleared: the words show the set without it
pub shows_clear : (words : List ℕ) (busy : Busy) (slot : ℕ) → length words ≡ 5 → slot < SLOT_COUNT → Shows words busy
    → Shows (perform slots words (Clear slot)) (without_slot busy slot)
shows_clear words busy slot long below shows = record { bits = λ s low. at s low (s == slot) refl } where
  after : ℕ
  after = bit_and (slice_index words (slot / BANK_SIZE)) (2 ^ 64 - 1 - 2 ^ (slot % BANK_SIZE))

  one : IsOneBit (slice_index words (slot / BANK_SIZE)) (slot % BANK_SIZE) 0
      (bit_and (slice_index words (slot / BANK_SIZE)) (2 ^ 64 - 1 - 2 ^ (slot % BANK_SIZE)))
  one = cleared (slice_index words (slot / BANK_SIZE)) (slot % BANK_SIZE) (omega arith)

  at : (s : ℕ) → s < SLOT_COUNT → (b : Bool) → (s == slot) ≡ b
      → (not b && busy s) ≡ (bit_at (slice_index (perform slots words (Clear slot)) (s / BANK_SIZE)) (s % BANK_SIZE) == 1)
  at s low true e =
      sym (ap (λ (n : ℕ). n == 1) (bit_here words long slot below 0 (bit_and (slice_index words (slot / BANK_SIZE)) (2 ^ 64 - 1 - 2 ^ (slot % BANK_SIZE))) one s
      (eqb-true s slot e)))
  at s low false e =
      shows.bits s low
      ∙ sym (ap (λ (n : ℕ). n == 1) (bit_else words long slot below 0 (bit_and (slice_index words (slot / BANK_SIZE)) (2 ^ 64 - 1 - 2 ^ (slot % BANK_SIZE))) one
      s low (eqb-false s slot e)))

-- a free slot's bit is 0
free_bit : (words : List ℕ) (busy : Busy) (slot : ℕ) → slot < SLOT_COUNT → Shows words busy → busy slot ≡ false
    → bit_at (slice_index words (slot / BANK_SIZE)) (slot % BANK_SIZE) ≡ 0
free_bit words busy slot below shows free =
    let not_one = eqb-false (bit_at (slice_index words (slot / BANK_SIZE)) (slot % BANK_SIZE)) 1 (sym (shows.bits slot below) ∙ free) in
    omega (arith, bit_at-lt (slice_index words (slot / BANK_SIZE)) (slot % BANK_SIZE))

-- free slots are marked one after another
pub shows_marks : (words : List ℕ) (busy : Busy) (taken : List ℕ) → length words ≡ 5 → Shows words busy → AreFree busy taken
    → Shows (perform_all slots words (map Mark taken)) (with_slots busy taken)
unfolding perform_all
shows_marks words busy [] long shows free = shows
shows_marks words busy (slot ∷ taken) long shows free =
    shows_marks (perform slots words (Mark slot)) (with_slot busy slot) taken
    (length-set words (slot / BANK_SIZE) (bit_or (slice_index words (slot / BANK_SIZE)) (2 ^ (slot % BANK_SIZE))) ∙ long)
    (shows_mark words busy slot long free.0 shows) free.2

pub due_marks : (words : List ℕ) (busy : Busy) (taken : List ℕ) → length words ≡ 5 → Shows words busy → AreFree busy taken → AreDue slots words (map Mark taken)
due_marks words busy [] long shows free = tt
due_marks words busy (slot ∷ taken) long shows free = (
  free_bit words busy slot free.0 shows free.1,
  due_marks (perform slots words (Mark slot)) (with_slot busy slot) taken
      (length-set words (slot / BANK_SIZE) (bit_or (slice_index words (slot / BANK_SIZE)) (2 ^ (slot % BANK_SIZE))) ∙ long)
      (shows_mark words busy slot long free.0 shows) free.2,
)
