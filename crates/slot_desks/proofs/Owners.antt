-- if each desk frees only slots that it has, no two have a slot at the same time
use Rattle.std.proofs.Common.{◌≡◌, ◌≢◌, ℕ, zero, suc, ◌<◌, ◌≤◌, ◌⊎◌, Bool, true, false, List, [], ◌∷◌, ◌++◌, length, inl, inr, refl, sym, ◌∙◌, ap, subst, arith}
use Rattle.std.proofs.Common.{ne_eqb, ◌==◌, ◌||◌, ◌&&◌, not, Option, Some, None, IfSome, option_to_list, slice_get, if◌then◌else◌, eqb-true, eq-eqb, true≢false}
use Rattle.turns.{specs.{Among.{IsIn, AreDistinct}, Law.IsLegal, World.RecordOf}, proofs.Lists.{in_front, in_back, in_either, one_or_two}}
use Rattle.{desks.specs.{Parts.own, Reports.MakeUp}, slots.specs.declared.{bank.TheConstants.{BANK_SIZE, SLOT_COUNT}, job.Job.Job}}
use Rattle.slots.specs.{declared.job.Job.TheVariants.{Take, TakeBoth, Give}, Slots.{Busy, with_slot, with_slots, without_slot, lowest_free, both_of, whole}}
use Rattle.slots.{specs.{System.slots, Taken.Took}, proofs.{FreeSlots.{AreFree, both_free, one_free}, TakenOnce.{more_taken, these_taken}}}
use Rattle.slot_desks.specs.Ended.{AllGiveOwn, GivesIts, GivesOwn, has_after, without}

abbrev Order : Type 0
Order = List (RecordOf slots)

-- a list without one of its items
without_in : (gone slot : ℕ) (had : List ℕ) → AreDistinct had → IsIn slot (without gone had) → IsIn slot had × (slot ≢ gone)
without_in gone slot [] apart none = absurd none
without_in gone slot (s ∷ had) apart within = by (s == gone) refl (without_in gone slot had apart.1) within where
  by : (b : Bool) → (s == gone) ≡ b → (IsIn slot (without gone had) → IsIn slot had × (slot ≢ gone)) → IsIn slot (if b then had else s ∷ without gone had)
      → IsIn slot (s ∷ had) × (slot ≢ gone)
  by true e later_in later = (inr later, λ same. apart.0 (subst (λ (n : ℕ). IsIn n had) (same ∙ sym (eqb-true s gone e)) later))
  by false e later_in (inl is) = (inl is, λ same. true≢false (sym (eq-eqb s gone (sym is ∙ same)) ∙ e))
  by false e later_in (inr later) = let h = later_in later in (inr h.0, h.1)

without_keeps : (gone slot : ℕ) (had : List ℕ) → IsIn slot had → slot ≢ gone → IsIn slot (without gone had)
without_keeps gone slot [] none other = none
without_keeps gone slot (s ∷ had) within other = by (s == gone) refl (λ later. without_keeps gone slot had later other) within where
  by : (b : Bool) → (s == gone) ≡ b → (IsIn slot had → IsIn slot (without gone had)) → IsIn slot (s ∷ had) → IsIn slot (if b then had else s ∷ without gone had)
  by true e kept (inl is) = absurd (other (is ∙ eqb-true s gone e))
  by true e kept (inr later) = later
  by false e kept (inl is) = inl is
  by false e kept (inr later) = inr (kept later)

without_distinct : (gone : ℕ) (had : List ℕ) → AreDistinct had → AreDistinct (without gone had)
without_distinct gone [] apart = tt
without_distinct gone (s ∷ had) apart = by (s == gone) (without_distinct gone had apart.1) where
  by : (b : Bool) → AreDistinct (without gone had) → AreDistinct (if b then had else s ∷ without gone had)
  by true rest = apart.1
  by false rest = ((λ within. apart.0 (without_in gone s had apart.1 within).0), rest)

distinct_both : (xs ys : List ℕ) → AreDistinct xs → AreDistinct ys → ((x : ℕ) → IsIn x xs → IsIn x ys → ⊥) → AreDistinct (xs ++ ys)
distinct_both [] ys one other apart = other
distinct_both (x ∷ xs) ys one other apart = (
  (λ within. elim (in_either x xs ys within) [ inl front ↦ one.0 front | inr back ↦ apart x (inl refl) back ]),
  distinct_both xs ys one.1 other (λ y front back. apart y (inr front) back),
)

-- slots that a job takes are free, and none of them occurs twice
or_false : (a b : Bool) → (a || b) ≡ false → b ≡ false
or_false true b e = absurd (true≢false e)
or_false false b e = e

are_free : (busy : Busy) (taken : List ℕ) (slot : ℕ) → AreFree busy taken → IsIn slot taken → busy slot ≡ false
are_free busy [] slot free none = absurd none
are_free busy (s ∷ taken) slot free (inl is) = ap busy is ∙ free.1
are_free busy (s ∷ taken) slot free (inr later) = or_false (slot == s) (busy slot) (are_free (with_slot busy s) taken slot free.2 later)

are_distinct : (busy : Busy) (taken : List ℕ) → AreFree busy taken → AreDistinct taken
are_distinct busy [] free = tt
are_distinct busy (s ∷ taken) free = (
  (λ within. true≢false (sym (ap (λ (b : Bool). b || busy s) (eq-eqb s s refl)) ∙ are_free (with_slot busy s) taken s free.2 within)),
  are_distinct (with_slot busy s) taken free.2,
)

-- what desks have once one of them did a job
abbrev had_if : Bool → List ℕ → Job → List ℕ → List ℕ
had_if true had job taken = has_after had job taken
had_if false had job taken = had

abbrev had_with : (ℕ → List ℕ) → ℕ → Job → List ℕ → ℕ → List ℕ
had_with had k job taken i = had_if (k == i) (had i) job taken

-- what desks have is taken, and no two have one slot
record AreHeld (state : Busy) (had : ℕ → List ℕ) : Type 0 where
  busy : (i slot : ℕ) → IsIn slot (had i) → state slot ≡ true
  one : (i j slot : ℕ) → IsIn slot (had i) → IsIn slot (had j) → i ≡ j
  distinct : (i : ℕ) → AreDistinct (had i)

module _ (state : Busy) (had : ℕ → List ℕ) (k : ℕ) (held : AreHeld state had) where
  module _ (job : Job) (taken : List ℕ) (takes : (l : List ℕ) → has_after l job taken ≡ taken ++ l) (free : AreFree state taken) where
    clash : (j slot : ℕ) → IsIn slot taken → IsIn slot (had j) → ⊥
    clash j slot new old = true≢false (sym (held.busy j slot old) ∙ are_free state taken slot free new)

    from : (i slot : ℕ) (b : Bool) → (k == i) ≡ b → IsIn slot (had_if b (had i) job taken) → ((k ≡ i) × IsIn slot taken) ⊎ IsIn slot (had i)
    from i slot true e within =
        elim (in_either slot taken (had i) (subst (IsIn slot) (takes (had i)) within)) [ inl new ↦ inl (eqb-true k i e, new) | inr old ↦ inr old ]
    from i slot false e within = inr within

    busy_by : (i slot : ℕ) → ((k ≡ i) × IsIn slot taken) ⊎ IsIn slot (had i) → with_slots state taken slot ≡ true
    busy_by i slot (inl new) = these_taken state taken slot new.1
    busy_by i slot (inr old) = more_taken state taken slot (held.busy i slot old)

    one_by : (i j slot : ℕ) → ((k ≡ i) × IsIn slot taken) ⊎ IsIn slot (had i) → ((k ≡ j) × IsIn slot taken) ⊎ IsIn slot (had j) → i ≡ j
    one_by i j slot (inl new) (inl too) = sym new.0 ∙ too.0
    one_by i j slot (inl new) (inr old) = absurd (clash j slot new.1 old)
    one_by i j slot (inr old) (inl new) = absurd (clash i slot new.1 old)
    one_by i j slot (inr old) (inr too) = held.one i j slot old too

    distinct_by : (i : ℕ) (b : Bool) → AreDistinct (had_if b (had i) job taken)
    distinct_by i true = subst AreDistinct (sym (takes (had i))) (distinct_both taken (had i) (are_distinct state taken free) (held.distinct i) (clash i))
    distinct_by i false = held.distinct i

    took_held : AreHeld (with_slots state taken) (had_with had k job taken)
    took_held = record {
      busy = λ i slot within. busy_by i slot (from i slot (k == i) refl within);
      one = λ i j slot within too. one_by i j slot (from i slot (k == i) refl within) (from j slot (k == j) refl too);
      distinct = λ i. distinct_by i (k == i);
    }

  module _ (gone : ℕ) (taken : List ℕ) (its : IsIn gone (had k)) where
    kept : (i slot : ℕ) (b : Bool) → (k == i) ≡ b → IsIn slot (had_if b (had i) (Give gone) taken) → IsIn slot (had i) × (slot ≢ gone)
    kept i slot true e within = without_in gone slot (had i) (held.distinct i) within
    kept i slot false e within = (within, λ same. true≢false (sym (eq-eqb k i (held.one k i gone its (subst (λ (n : ℕ). IsIn n (had i)) same within))) ∙ e))

    distinct_still : (i : ℕ) (b : Bool) → AreDistinct (had_if b (had i) (Give gone) taken)
    distinct_still i true = without_distinct gone (had i) (held.distinct i)
    distinct_still i false = held.distinct i

    gave_held : AreHeld (without_slot state gone) (had_with had k (Give gone) taken)
    gave_held = record {
      busy = λ i slot within. let h = kept i slot (k == i) refl within in ap (λ (b : Bool). not b && state slot) (ne_eqb slot gone h.1) ∙ held.busy i slot h.0;
      one = λ i j slot within too. held.one i j slot (kept i slot (k == i) refl within).0 (kept j slot (k == j) refl too).0;
      distinct = λ i. distinct_still i (k == i);
    }

  -- this stays so whatever job is done, if its desk frees only slots of its own
  job_held : (job : Job) (reply : List ℕ) → reply ≡ (whole state job).reply → GivesIts (had k) job → AreHeld (whole state job).state (had_with had k job reply)
  job_held Take reply is its =
      let taken = option_to_list (lowest_free state 0 SLOT_COUNT) in
      subst (λ (l : List ℕ). AreHeld (with_slots state taken) (had_with had k Take l)) (sym is)
      (took_held Take taken (λ l. refl) (one_free state 0 SLOT_COUNT (lowest_free state 0 SLOT_COUNT) (omega arith) refl))
  job_held TakeBoth reply is its =
      let taken = both_of (lowest_free state 0 BANK_SIZE) (lowest_free state BANK_SIZE BANK_SIZE) in
      subst (λ (l : List ℕ). AreHeld (with_slots state taken) (had_with had k TakeBoth l)) (sym is)
      (took_held TakeBoth taken (λ l. refl) (both_free state (lowest_free state 0 BANK_SIZE) (lowest_free state BANK_SIZE BANK_SIZE) refl refl))
  job_held (Give gone) reply is its = gave_held gone reply its

  -- a job takes none that a desk has
  takes_other : (a slot : ℕ) (job : Job) → IsIn slot (had a) → IsIn slot (whole state job).reply → ⊥
  takes_other a slot Take old new =
      clash Take (option_to_list (lowest_free state 0 SLOT_COUNT)) (λ l. refl) (one_free state 0 SLOT_COUNT (lowest_free state 0 SLOT_COUNT) (omega arith) refl)
      a slot new old
  takes_other a slot TakeBoth old new =
      clash TakeBoth (both_of (lowest_free state 0 BANK_SIZE) (lowest_free state BANK_SIZE BANK_SIZE)) (λ l. refl)
      (both_free state (lowest_free state 0 BANK_SIZE) (lowest_free state BANK_SIZE BANK_SIZE) refl refl) a slot new old
  takes_other a slot (Give gone) old none = none

-- in this order each desk frees only slots of its own, if these are what it has at first
abbrev AllOwn : (ℕ → List ℕ) → Order → Type 0
AllOwn had order = (i : ℕ) → GivesOwn (had i) (own i order)

own_head : (had : ℕ → List ℕ) (r : RecordOf slots) (order : Order) → AllOwn had (r ∷ order) → GivesIts (had r.actor) r.job
own_head had r order all = by (r.actor == r.actor) (eq-eqb r.actor r.actor refl) (all r.actor) where
  by : (b : Bool) → b ≡ true → GivesOwn (had r.actor) (if b then r ∷ own r.actor order else own r.actor order) → GivesIts (had r.actor) r.job
  by true e its = its.0
  by false e its = absurd (true≢false (sym e))

own_tail : (had : ℕ → List ℕ) (r : RecordOf slots) (order : Order) → AllOwn had (r ∷ order) → AllOwn (had_with had r.actor r.job r.reply) order
own_tail had r order all i = by (r.actor == i) (all i) where
  by : (b : Bool) → GivesOwn (had i) (if b then r ∷ own i order else own i order) → GivesOwn (had_if b (had i) r.job r.reply) (own i order)
  by true its = its.1
  by false its = its

-- the state that an order has reached, before the rest of it
record HasReached (rest : Order) : Type 0 where
  pub place : ℕ
  pub state : Busy
  pub had : ℕ → List ℕ
  pub held : AreHeld state had
  pub own : AllOwn had rest
  pub legal : IsLegal slots place state rest

abbrev step_on : (r : RecordOf slots) (rest : Order) → HasReached (r ∷ rest) → HasReached rest
step_on r rest now = record {
  place = suc now.place;
  state = (whole now.state r.job).state;
  had = had_with now.had r.actor r.job r.reply;
  held = job_held now.state now.had r.actor now.held r.job r.reply now.legal.2 (own_head now.had r rest now.own);
  own = own_tail now.had r rest now.own;
  legal = now.legal.3;
}

reach : (before rest : Order) → HasReached (before ++ rest) → HasReached rest
reach [] rest now = now
reach (r ∷ before) rest now = reach before rest (step_on r (before ++ rest) now)

-- the record of the job by which a desk frees a slot
pub record GivesItBack (actor slot : ℕ) (between : Order) : Type 0 where
  pub back : RecordOf slots
  pub within : IsIn back between
  pub gives : back.job ≡ Give slot
  pub by : back.actor ≡ actor

-- a desk keeps a slot unless it frees it
keeps_or_gives : (had : ℕ → List ℕ) (a slot k : ℕ) (job : Job) (reply : List ℕ) → IsIn slot (had a)
    → ((k ≡ a) × (job ≡ Give slot)) ⊎ IsIn slot (had_with had k job reply a)
keeps_or_gives had a slot k job reply its = by (k == a) refl job where
  by : (b : Bool) → (k == a) ≡ b → (job : Job) → ((k ≡ a) × (job ≡ Give slot)) ⊎ IsIn slot (had_if b (had a) job reply)
  by false e job = inr its
  by true e Take = inr (in_back slot reply (had a) its)
  by true e TakeBoth = inr (in_back slot reply (had a) its)
  by true e (Give gone) = elim (one_or_two slot gone) [
    | inl same ↦ inl (eqb-true k a e, ap (λ (s : ℕ). Give s) (sym same))
    | inr other ↦ inr (without_keeps gone slot (had a) its other)
  ]

given_by : (a slot : ℕ) (other : RecordOf slots) (later between : Order) → Took slot other → (now : HasReached (between ++ other ∷ later))
    → IsIn slot (now.had a) → GivesItBack a slot between
given_by a slot other later [] took now its =
    absurd (takes_other now.state now.had other.actor now.held a slot other.job its (subst (IsIn slot) now.legal.2 took))
given_by a slot other later (r ∷ between) took now its = elim (keeps_or_gives now.had a slot r.actor r.job r.reply its) [
  | inl gives ↦ record { back = r; within = inl refl; gives = gives.1; by = gives.0 }
  | inr still ↦ let g = given_by a slot other later between took (step_on r (between ++ other ∷ later) now) still in
      record { back = g.back; within = inr g.within; gives = g.gives; by = g.by }
]

took_its : (had : ℕ → List ℕ) (state : Busy) (slot k : ℕ) (job : Job) (reply : List ℕ) → reply ≡ (whole state job).reply → IsIn slot reply
    → IsIn slot (had_with had k job reply k)
took_its had state slot k job reply is within = by (k == k) (eq-eqb k k refl) job is where
  by : (b : Bool) → b ≡ true → (job : Job) → reply ≡ (whole state job).reply → IsIn slot (had_if b (had k) job reply)
  by false e job is = absurd (true≢false (sym e))
  by true e Take is = in_front slot reply (had k) within
  by true e TakeBoth is = in_front slot reply (had k) within
  by true e (Give gone) is = absurd (subst (IsIn slot) is within)

-- a desk that took a slot frees it before it is taken again
pub given_by_its_taker : (order before between later : Order) (r other : RecordOf slots) (slot : ℕ) → IsLegal slots 0 slots.opening order
    → AllOwn (λ i. []) order → order ≡ before ++ r ∷ (between ++ other ∷ later) → Took slot r → Took slot other → GivesItBack r.actor slot between
given_by_its_taker order before between later r other slot legal all is took too =
    let rest = between ++ other ∷ later in
    let first : HasReached (before ++ r ∷ (between ++ other ∷ later)) =
    subst HasReached is (record {
      place = 0;
      state = slots.opening;
      had = λ i. [];
      held = record { busy = λ i slot none. absurd none; one = λ i j slot none too. absurd none; distinct = λ i. tt };
      own = all;
      legal = legal;
    }) in
    let now = reach before (r ∷ rest) first in
    given_by r.actor slot other later between too (step_on r rest now) (took_its now.had now.state slot r.actor r.job r.reply now.legal.2 took)

-- logs that make up an order, of desks that free only slots of their own
none_own : (order : Order) (i count : ℕ) → ((r : RecordOf slots) → IsIn r order → r.actor < count) → count ≤ i → own i order ≡ []
none_own [] i count theirs above = refl
none_own (r ∷ order) i count theirs above =
    let below = theirs r (inl refl) in
    let apart : r.actor ≢ i = (λ same. omega (arith, below, above, same)) in
    ap (λ (b : Bool). if b then r ∷ own i order else own i order) (ne_eqb r.actor i apart) ∙ none_own order i count (λ x within. theirs x (inr within)) above

none_there : {A : Type 0} (xs : List A) (i : ℕ) → slice_get xs i ≡ None → length xs ≤ i
none_there [] i e = omega arith
none_there (x ∷ xs) zero e = absurd cc
none_there (x ∷ xs) (suc i) e = let h = none_there xs i e in omega (arith, h)

pub logs_own : (logs : List Order) (order : Order) → MakeUp slots logs order → AllGiveOwn logs → AllOwn (λ i. []) order
logs_own logs order made own_all i = by (slice_get logs i) refl (made.each i) (own_all i) where
  by : (o : Option Order) → slice_get logs i ≡ o → IfSome o (λ log. own i order ≡ log) → IfSome o (λ log. GivesOwn [] log) → GivesOwn [] (own i order)
  by (Some log) there is its = subst (GivesOwn []) (sym is) its
  by None there is its = subst (GivesOwn []) (sym (none_own order i (length logs) made.theirs (none_there logs i there))) tt
