-- the slots are a system of jobs
use Rattle.std.proofs.Common.{◌≡◌, ℕ, ◌*◌, ◌/◌, ◌%◌, ◌<◌, List, [], ◌∷◌, length, slice_index, inl, inr, refl, sym, ◌∙◌, ap, subst, arith, ◌==◌, Option, Some}
use Rattle.std.proofs.Common.{None, Err, map, option_to_list}
use Rattle.{std.{specs.Int.bit_at, proofs.lemmas.Nat.Bits.bit_at-zero}, turns.specs.{Among.IsIn, Script.{◌>>=◌, run, first_wanted}, Layouts.zeros_of}}
use Rattle.turns.specs.{System.{IsSystem, IsUnder, AreAlike, KeepsTo, DecidesAs, DecidesUnder, perform_all, MayMake}, declared.wanted.Wanted.TheVariants.Seize}
use Rattle.turns.proofs.{Layouts.{ones_are, words_apart, zeros_open}, OwnSystem.{makes_more, makes_none, same_number, under_its_lock, zero_at}, Plain.plain_is}
use Rattle.slots.specs.declared.{bank.TheConstants.{BANK_SIZE, SLOT_COUNT}, effect.Effect.TheVariants.{Mark, Clear}}
use Rattle.slots.specs.declared.{decision.Decision.TheVariants.{Takes, Gives}, job.Job.{Job, TheVariants.{Take, TakeBoth, Give}}}
use Rattle.slots.specs.{Slots.{Busy, none_busy, lowest_free, both_of, took, whole}, System.{Shows, and_upper, banks, first_lock, free_in, IsJob, or_upper}}
use Rattle.slots.{specs.System.{script, slot_jobs, slot_steps, slots, upper_steps, upper_too_steps}, proofs.FreeSlots.{AreFree, or_first, lowest_split}}
use Rattle.slots.proofs.{FreeSlots.{lowest_same, lowest_found, one_free, both_free}, SlotBits.{place_below, shows_clear, shows_marks, due_marks}}

-- each slot is of a bank whose lock is held
abbrev AreHeld : List ℕ → List ℕ → Type 0
AreHeld held taken = (slot : ℕ) → IsIn slot taken → (slot < SLOT_COUNT) × IsIn (slot / BANK_SIZE) held

word_under : (held : List ℕ) (bank : ℕ) → bank < 2 → IsIn bank held → IsUnder slots held bank
word_under held bank below own = under_its_lock slots held bank bank (refl, below) own

-- a mark is one bit of its bank's word
may_mark : (held taken : List ℕ) → AreHeld held taken → MayMake slots held (map Mark taken)
may_mark held [] all = makes_none slots held
may_mark held (slot ∷ taken) all =
    let own = all slot (inl refl) in
    makes_more slots held (Mark slot) (map Mark taken) (word_under held (slot / BANK_SIZE) (omega (arith, own.0)) own.1)
    (place_below (slot % BANK_SIZE) (omega arith)) (may_mark held taken (λ s within. all s (inr within)))

-- a slot that was found in a bank's word is of that bank
one_held : (held : List ℕ) (bank word slot : ℕ) → bank < 2 → IsIn bank held → free_in bank word ≡ Some slot → AreHeld held (slot ∷ [])
one_held held bank word slot below own found s (inl e) =
    let f = lowest_found (λ t. bit_at word (t % BANK_SIZE) == 1) (BANK_SIZE * bank) BANK_SIZE slot found in
    let same : s / BANK_SIZE ≡ bank = omega (arith, f.above, f.below) in
    (omega (arith, f.below), subst (λ (b : ℕ). IsIn b held) (sym same) own)
one_held held bank word slot below own found s (inr none) = absurd none

found_held : (held : List ℕ) (bank word : ℕ) (o : Option ℕ) → bank < 2 → IsIn bank held → free_in bank word ≡ o → AreHeld held (option_to_list o)
found_held held bank word None below own found s none = absurd none
found_held held bank word (Some slot) below own found s within = one_held held bank word slot below own found s within

both_held : (held : List ℕ) (low word lower : ℕ) (o : Option ℕ) → IsIn 0 held → IsIn 1 held → free_in 0 low ≡ Some lower → free_in 1 word ≡ o
    → AreHeld held (both_of (Some lower) o)
both_held held low word lower None own other found also s none = absurd none
both_held held low word lower (Some upper) own other found also s (inl e) = one_held held 0 low lower (omega arith) own found s (inl e)
both_held held low word lower (Some upper) own other found also s (inr later) = one_held held 1 word upper (omega arith) other also s later

-- the script goes on with what it found in the lower bank
or_keeps : (low : ℕ) (o : Option ℕ) → free_in 0 low ≡ o → KeepsTo slots (DecidesUnder slots) (0 ∷ []) (or_upper o)
unfolding KeepsTo ◌>>=◌ slot_steps upper_steps
or_keeps low None found =
    let held : List ℕ = 0 ∷ 1 ∷ [] in (
      omega arith,
      (
        word_under held 1 (omega arith) (inr (inl refl)),
        λ word below. may_mark held (option_to_list (free_in 1 word)) (found_held held 1 word (free_in 1 word) (omega arith) (inr (inl refl)) refl),
      ),
    )
or_keeps low (Some lower) found = may_mark (0 ∷ []) (lower ∷ []) (one_held (0 ∷ []) 0 low lower (omega arith) (inl refl) found)

and_keeps : (low : ℕ) (o : Option ℕ) → free_in 0 low ≡ o → KeepsTo slots (DecidesUnder slots) (0 ∷ []) (and_upper o)
unfolding KeepsTo ◌>>=◌ slot_steps upper_too_steps
and_keeps low None found = makes_none slots (0 ∷ [])
and_keeps low (Some lower) found =
    let held : List ℕ = 0 ∷ 1 ∷ [] in (
      omega arith,
      (
        word_under held 1 (omega arith) (inr (inl refl)),
        λ word below. may_mark held (both_of (Some lower) (free_in 1 word))
            (both_held held low word lower (free_in 1 word) (inl refl) (inr (inl refl)) found refl),
      ),
    )

keeps : (job : Job) → IsJob job → KeepsTo slots (DecidesUnder slots) [] (script job)
unfolding KeepsTo ◌>>=◌ slot_steps
keeps Take right = (omega arith, (word_under (0 ∷ []) 0 (omega arith) (inl refl), λ low below. or_keeps low (free_in 0 low) refl))
keeps TakeBoth right = (omega arith, (word_under (0 ∷ []) 0 (omega arith) (inl refl), λ low below. and_keeps low (free_in 0 low) refl))
keeps (Give slot) right =
    let held : List ℕ = slot / BANK_SIZE ∷ [] in
    (omega arith, makes_more slots held (Clear slot) [] (word_under held (slot / BANK_SIZE) (omega arith) (inl refl)) tt (makes_none slots held))

-- a job seizes its first lock first
firsts : (job : Job) → first_wanted (script job) ≡ Err (Seize (first_lock job))
unfolding first_wanted ◌>>=◌ slot_steps
firsts Take = refl
firsts TakeBoth = refl
firsts (Give slot) = refl

-- on words that show a set, a bank's word shows its lowest free slot
free_shown : (words : List ℕ) (busy : Busy) (bank : ℕ) → bank < 2 → Shows words busy
    → lowest_free busy (BANK_SIZE * bank) BANK_SIZE ≡ free_in bank (slice_index words bank)
free_shown words busy bank below shows =
    lowest_same busy (λ slot. bit_at (slice_index words bank) (slot % BANK_SIZE) == 1) (BANK_SIZE * bank) BANK_SIZE
    (λ s from until.
    let same : s / BANK_SIZE ≡ bank = omega arith in
    shows.bits s (omega arith) ∙ ap (λ (b : ℕ). bit_at (slice_index words b) (s % BANK_SIZE) == 1) same)

takes_as : (words : List ℕ) (busy : Busy) (taken : List ℕ) → length words ≡ 5 → Shows words busy → AreFree busy taken
    → DecidesAs slots words (took busy taken) (Takes taken)
takes_as words busy taken long shows free =
    record { reply = refl; shows = shows_marks words busy taken long shows free; due = due_marks words busy taken long shows free }

gives_as : (words : List ℕ) (busy : Busy) (slot : ℕ) → length words ≡ 5 → Shows words busy → slot < SLOT_COUNT
    → DecidesAs slots words (whole busy (Give slot)) (Gives slot)
unfolding perform_all
gives_as words busy slot long shows below = record { reply = refl; shows = shows_clear words busy slot long below shows; due = (tt, tt) }

module _ (words : List ℕ) where
  or_run : (o : Option ℕ) → run words (or_upper o) ≡ Takes (option_to_list (or_first o (free_in 1 (slice_index words 1))))
  unfolding run ◌>>=◌ slot_steps upper_steps
  or_run None = refl
  or_run (Some lower) = refl

  and_run : (o : Option ℕ) → run words (and_upper o) ≡ Takes (both_of o (free_in 1 (slice_index words 1)))
  unfolding run ◌>>=◌ slot_steps upper_too_steps
  and_run None = refl
  and_run (Some lower) = refl

  module _ (busy : Busy) (long : length words ≡ 5) (shows : Shows words busy) where
    low_shown : lowest_free busy 0 BANK_SIZE ≡ free_in 0 (slice_index words 0)
    low_shown = free_shown words busy 0 (omega arith) shows

    high_shown : lowest_free busy BANK_SIZE BANK_SIZE ≡ free_in 1 (slice_index words 1)
    high_shown = free_shown words busy 1 (omega arith) shows

    take_is : run words (script Take) ≡ Takes (option_to_list (lowest_free busy 0 SLOT_COUNT))
    unfolding run ◌>>=◌ slot_steps
    take_is =
        or_run (free_in 0 (slice_index words 0))
        ∙ ap (λ (o : Option ℕ). Takes (option_to_list o))
        (ap (λ (o : Option ℕ). or_first o (free_in 1 (slice_index words 1))) (sym low_shown) ∙ ap (or_first (lowest_free busy 0 BANK_SIZE)) (sym high_shown)
        ∙ sym (lowest_split busy 0 BANK_SIZE BANK_SIZE))

    both_is : run words (script TakeBoth) ≡ Takes (both_of (lowest_free busy 0 BANK_SIZE) (lowest_free busy BANK_SIZE BANK_SIZE))
    unfolding run ◌>>=◌ slot_steps
    both_is =
        and_run (free_in 0 (slice_index words 0))
        ∙ ap Takes (ap (λ (o : Option ℕ). both_of o (free_in 1 (slice_index words 1))) (sym low_shown)
        ∙ ap (both_of (lowest_free busy 0 BANK_SIZE)) (sym high_shown))

    decides : (job : Job) → IsJob job → DecidesAs slots words (whole busy job) (run words (script job))
    unfolding run ◌>>=◌
    decides Take right =
        let taken = option_to_list (lowest_free busy 0 SLOT_COUNT) in
        subst (DecidesAs slots words (took busy taken)) (sym take_is)
        (takes_as words busy taken long shows (one_free busy 0 SLOT_COUNT (lowest_free busy 0 SLOT_COUNT) (omega arith) refl))
    decides TakeBoth right =
        let taken = both_of (lowest_free busy 0 BANK_SIZE) (lowest_free busy BANK_SIZE BANK_SIZE) in
        subst (DecidesAs slots words (took busy taken)) (sym both_is)
        (takes_as words busy taken long shows (both_free busy (lowest_free busy 0 BANK_SIZE) (lowest_free busy BANK_SIZE BANK_SIZE) refl refl))
    decides (Give slot) right = gives_as words busy slot long shows right

looks : (words other : List ℕ) (busy : Busy) → AreAlike slots words other → Shows words busy → Shows other busy
looks words other busy alike shows = record {
  bits = λ s below. shows.bits s below ∙ ap (λ (n : ℕ). bit_at n (s % BANK_SIZE) == 1) (alike.under (s / BANK_SIZE) (s / BANK_SIZE) (refl, omega arith));
}

-- a word of 0 marks no slot
opens_shown : Shows (zeros_of banks) none_busy
opens_shown = record {
  bits =
      λ slot below. sym (ap (λ (n : ℕ). bit_at n (slot % BANK_SIZE) == 1) (zero_at 5 (slot / BANK_SIZE))
      ∙ ap (λ (n : ℕ). n == 1) (bit_at-zero (slot % BANK_SIZE)));
}

pub slots_system : IsSystem slots
slots_system = record {
  sharing = plain_is;
  same = same_number;
  words = words_apart banks slot_jobs (ones_are 2);
  first = λ job right. firsts job;
  keeps = keeps;
  decides = λ job words busy right long are shows. decides words busy long shows job right;
  looks = looks;
  opens = zeros_open banks slot_jobs opens_shown (record { is_word = omega arith; free = refl; unasked = λ j few. refl });
}
