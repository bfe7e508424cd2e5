-- a slot that is taken twice was freed in between
use Rattle.std.proofs.Common.{◌≡◌, ℕ, suc, ◌⊎◌, Bool, true, false, List, [], ◌∷◌, ◌++◌, inl, inr, refl, sym, ◌∙◌, ap, subst, ◌==◌, ◌||◌, ◌&&◌, not, Option}
use Rattle.std.proofs.Common.{Some, None, option_to_list, eqb-true, eq-eqb, true≢false}
use Rattle.{turns.specs.{Among.IsIn, Law.IsLegal, World.{RecordOf, after}}, slots.specs.declared.{bank.TheConstants.{BANK_SIZE, SLOT_COUNT}, job.Job.Job}}
use Rattle.slots.specs.{declared.job.Job.TheVariants.{Take, TakeBoth, Give}, Slots.{Busy, with_slot, with_slots, lowest_free, both_of, whole}, System.slots}
use Rattle.slots.{specs.Taken.{Took, IsGivenBack}, proofs.FreeSlots.lowest_found}

or_true : (b : Bool) → (b || true) ≡ true
or_true true = refl
or_true false = refl

-- what is taken stays so when more is taken, and what a job took is taken
pub more_taken : (busy : Busy) (taken : List ℕ) (slot : ℕ) → busy slot ≡ true → with_slots busy taken slot ≡ true
more_taken busy [] slot e = e
more_taken busy (first ∷ taken) slot e = more_taken (with_slot busy first) taken slot (ap (λ b. slot == first || b) e ∙ or_true (slot == first))

pub these_taken : (busy : Busy) (taken : List ℕ) (slot : ℕ) → IsIn slot taken → with_slots busy taken slot ≡ true
these_taken busy [] slot none = absurd none
these_taken busy (first ∷ taken) slot (inl e) = more_taken (with_slot busy first) taken slot (ap (λ b. b || busy slot) (eq-eqb slot first e))
these_taken busy (first ∷ taken) slot (inr later) = these_taken (with_slot busy first) taken slot later

taken_after : (busy : Busy) (job : Job) (slot : ℕ) → IsIn slot (whole busy job).reply → (whole busy job).state slot ≡ true
taken_after busy Take slot within = these_taken busy (option_to_list (lowest_free busy 0 SLOT_COUNT)) slot within
taken_after busy TakeBoth slot within = these_taken busy (both_of (lowest_free busy 0 BANK_SIZE) (lowest_free busy BANK_SIZE BANK_SIZE)) slot within
taken_after busy (Give other) slot none = absurd none

-- a job takes what was free
found_free : (busy : Busy) (from count slot : ℕ) (o : Option ℕ) → lowest_free busy from count ≡ o → IsIn slot (option_to_list o) → busy slot ≡ false
found_free busy from count slot None e none = absurd none
found_free busy from count slot (Some found) e (inl same) = ap busy same ∙ (lowest_found busy from count found e).free
found_free busy from count slot (Some found) e (inr none) = absurd none

both_found : (busy : Busy) (slot : ℕ) (lower upper : Option ℕ) → lowest_free busy 0 BANK_SIZE ≡ lower → lowest_free busy BANK_SIZE BANK_SIZE ≡ upper
    → IsIn slot (both_of lower upper) → busy slot ≡ false
both_found busy slot None upper el eu none = absurd none
both_found busy slot (Some a) None el eu none = absurd none
both_found busy slot (Some a) (Some b) el eu (inl same) = ap busy same ∙ (lowest_found busy 0 BANK_SIZE a el).free
both_found busy slot (Some a) (Some b) el eu (inr (inl same)) = ap busy same ∙ (lowest_found busy BANK_SIZE BANK_SIZE b eu).free
both_found busy slot (Some a) (Some b) el eu (inr (inr none)) = absurd none

free_before : (busy : Busy) (job : Job) (slot : ℕ) → IsIn slot (whole busy job).reply → busy slot ≡ false
free_before busy Take slot within = found_free busy 0 SLOT_COUNT slot (lowest_free busy 0 SLOT_COUNT) refl within
free_before busy TakeBoth slot within = both_found busy slot (lowest_free busy 0 BANK_SIZE) (lowest_free busy BANK_SIZE BANK_SIZE) refl refl within
free_before busy (Give other) slot none = absurd none

-- a taken slot stays so, unless it is freed
stays_or_given : (busy : Busy) (job : Job) (slot : ℕ) → busy slot ≡ true → (job ≡ Give slot) ⊎ ((whole busy job).state slot ≡ true)
stays_or_given busy Take slot e = inr (more_taken busy (option_to_list (lowest_free busy 0 SLOT_COUNT)) slot e)
stays_or_given busy TakeBoth slot e = inr (more_taken busy (both_of (lowest_free busy 0 BANK_SIZE) (lowest_free busy BANK_SIZE BANK_SIZE)) slot e)
stays_or_given busy (Give other) slot e = at (slot == other) refl where
  at : (b : Bool) → (slot == other) ≡ b → (◌≡◌ {A = Job} (Give other) (Give slot)) ⊎ ((not b && busy slot) ≡ true)
  at true same = inl (ap (λ (s : ℕ). Give s) (sym (eqb-true slot other same)))
  at false same = inr e

-- an order that is legal is legal from any of its records on
record IsLegalFrom (state : Busy) (order : List (RecordOf slots)) : Type 0 where
  place : ℕ
  legal : IsLegal slots place state order

legal_from : (i : ℕ) (state : Busy) (before rest : List (RecordOf slots)) → IsLegal slots i state (before ++ rest) → IsLegalFrom (after slots state before) rest
legal_from i state [] rest legal = record { place = i; legal = legal }
legal_from i state (r ∷ before) rest legal = legal_from (suc i) (whole state r.job).state before rest legal.3

module _ (slot : ℕ) (other : RecordOf slots) (later : List (RecordOf slots)) (took : Took slot other) where
  given_between : (i : ℕ) (state : Busy) (between : List (RecordOf slots)) → state slot ≡ true → IsLegal slots i state (between ++ other ∷ later)
      → IsGivenBack slot between
  given_between i state [] taken legal = absurd (true≢false (sym taken ∙ free_before state other.job slot (subst (IsIn slot) legal.2 took)))
  given_between i state (r ∷ between) taken legal = elim (stays_or_given state r.job slot taken) [
    | inl given ↦ inl given
    | inr still ↦ inr (given_between (suc i) (whole state r.job).state between still legal.3)
  ]

  pub taken_once : (before between : List (RecordOf slots)) (r : RecordOf slots) (order : List (RecordOf slots)) → IsLegal slots 0 slots.opening order
      → order ≡ before ++ r ∷ (between ++ other ∷ later) → Took slot r → IsGivenBack slot between
  taken_once before between r order legal is first =
      let from = legal_from 0 slots.opening before (r ∷ (between ++ other ∷ later)) (subst (IsLegal slots 0 slots.opening) is legal) in
      given_between (suc from.place) (whole (after slots slots.opening before) r.job).state between
      (taken_after (after slots slots.opening before) r.job slot (subst (IsIn slot) from.legal.2 first)) from.legal.3
