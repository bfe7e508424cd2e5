-- the rounds of a worker that takes and frees slots
use Rattle.std.proofs.Common.{◌≡◌, ℕ, suc, ◌<◌, ◌≤◌, ◌+◌, Bool, true, false, List, [], ◌∷◌, ◌++◌, map, inl, inr, refl, sym, ◌∙◌, ap, subst, append_assoc, arith}
use Rattle.std.proofs.Common.{IfNone, IfSome, None, Option, Some, if◌then◌else◌, option_to_list, ◌==◌}
use Rattle.{desks.specs.{Desks.as_record, Met.DeskOf, Parts.own, Reports.unreported}, slots.proofs.FreeSlots.lowest_found}
use Rattle.slots.specs.{Slots.{Busy, both_of, lowest_free, whole}, System.slots, declared.{bank.TheConstants.{BANK_SIZE, SLOT_COUNT}, job.Job.Job}}
use Rattle.slots.specs.declared.job.Job.TheVariants.{Give, Take, TakeBoth}
use Rattle.slot_desks.specs.Driving.{AreRounds, AreSlots, HasDoneRounds, LogOf, LogsGiving, LogsJob, LogsRound, Recorded, taking_in}
use Rattle.{turns.specs.{Among.IsIn, Law.IsLegal, World.RecordOf}, workers.specs.Workers.{IsLogOf, records}}

-- the slots that a job done whole takes are slots
one_is : (busy : Busy) (from count slot : ℕ) (o : Option ℕ) → from + count ≤ SLOT_COUNT → lowest_free busy from count ≡ o → IsIn slot (option_to_list o)
    → slot < SLOT_COUNT
one_is busy from count slot None few found within = absurd within
one_is busy from count slot (Some s) few found (inl is) = let f = lowest_found busy from count s found in omega (arith, few, f.below, is)
one_is busy from count slot (Some s) few found (inr none) = absurd none

both_are : (busy : Busy) (slot : ℕ) (lower upper : Option ℕ) → lowest_free busy 0 BANK_SIZE ≡ lower → lowest_free busy BANK_SIZE BANK_SIZE ≡ upper
    → IsIn slot (both_of lower upper) → slot < SLOT_COUNT
both_are busy slot (Some l) (Some u) lower upper (inl is) = one_is busy 0 BANK_SIZE slot (Some l) (omega arith) lower (inl is)
both_are busy slot (Some l) (Some u) lower upper (inr (inl is)) = one_is busy BANK_SIZE BANK_SIZE slot (Some u) (omega arith) upper (inl is)
both_are busy slot (Some l) (Some u) lower upper (inr (inr none)) = absurd none
both_are busy slot (Some l) None lower upper within = absurd within
both_are busy slot None upper lower_is upper_is within = absurd within

whole_slots : (busy : Busy) (job : Job) → AreSlots (whole busy job).reply
whole_slots busy Take slot within = one_is busy 0 SLOT_COUNT slot (lowest_free busy 0 SLOT_COUNT) (omega arith) refl within
whole_slots busy TakeBoth slot within = both_are busy slot (lowest_free busy 0 BANK_SIZE) (lowest_free busy BANK_SIZE BANK_SIZE) refl refl within
whole_slots busy (Give given) slot within = absurd within

legal_slots : (i : ℕ) (busy : Busy) (order : List (RecordOf slots)) (r : RecordOf slots) → IsLegal slots i busy order → IsIn r order → AreSlots r.reply
legal_slots i busy [] r legal within = absurd within
legal_slots i busy (x ∷ order) r legal (inl is) = subst AreSlots (sym (ap (λ (x : RecordOf slots). x.reply) is ∙ legal.2)) (whole_slots busy x.job)
legal_slots i busy (x ∷ order) r legal (inr later) = legal_slots (suc i) (whole busy x.job).state order r legal.3 later

own_within : (k : ℕ) (order : List (RecordOf slots)) (r : RecordOf slots) → IsIn r (own k order) → IsIn r order
own_within k [] r within = within
own_within k (x ∷ order) r within = by (x.actor == k) (own_within k order r) within where
  by : (b : Bool) → (IsIn r (own k order) → IsIn r order) → IsIn r (if b then x ∷ own k order else own k order) → IsIn r (x ∷ order)
  by true behind (inl e) = inl e
  by true behind (inr later) = inr (behind later)
  by false behind later = inr (behind later)

is_last : (log : LogOf) (more : List (RecordOf slots)) (reported : Recorded) → IsIn (as_record reported) (records (log ++ reported ∷ []) ++ more)
is_last [] more reported = inl refl
is_last (x ∷ log) more reported = inr (is_last log more reported)

-- the slots that a logged job took are slots
pub logged_slots : (desk : DeskOf slots (Unit {0})) (log log_after : LogOf) (reported : Recorded) (taken : List ℕ) → IsLogOf slots desk log_after
    → IsLegal slots 0 slots.opening desk.seen → log_after ≡ log ++ reported ∷ [] → reported.reply ≡ taken → AreSlots taken
logged_slots desk log log_after reported taken is legal all reply =
    let r = as_record reported in
    let within : IsIn r (own desk.number desk.seen) =
    subst (IsIn r) (sym (is ∙ ap (λ (l : LogOf). records l ++ unreported slots desk.number desk.actor) all))
    (is_last log (unreported slots desk.number desk.actor) reported) in
    subst AreSlots reply (legal_slots 0 slots.opening desk.seen r legal (own_within desk.number desk.seen r within))

-- a round in which no slots were taken
pub round_none : (log log_after : LogOf) (round : ℕ) → log_after ≡ log → LogsRound log log_after round false
round_none log log_after round same = record { made = []; log_is = same ∙ sym (none_behind log); numbered = tt; whole = λ is. absurd cc } where
  none_behind : (l : LogOf) → l ++ [] ≡ l
  none_behind [] = refl
  none_behind (reported ∷ l) = ap (λ (m : LogOf). reported ∷ m) (none_behind l)

-- a round in which slots were taken and freed
pub round_of : (log between log_after : LogOf) (round : ℕ) (taken : List ℕ) (all : Bool) → LogsJob log between round (taking_in round) taken
    → LogsGiving between log_after round taken all → LogsRound log log_after round all
round_of log between log_after round taken all one giving = record {
  made = one.reported ∷ giving.given;
  log_is = giving.log_is ∙ ap (λ (l : LogOf). l ++ giving.given) one.log_is ∙ append_assoc log (one.reported ∷ []) giving.given;
  numbered = (one.number_is, giving.numbered);
  whole = λ is. record {
    taking = one.reported;
    giving = giving.given;
    log_is = refl;
    job_is = one.job_is;
    given = giving.all_given is ∙ ap (map Give) (sym one.reply_is);
  };
}

-- one round more
pub rounds_more : (count : ℕ) (log log_after : LogOf) → AreRounds count log → LogsRound log log_after count true → AreRounds (count + 1) log_after
rounds_more count log log_after rounds one =
    let next : suc count ≡ count + 1 = omega arith in
    subst (λ (n : ℕ). AreRounds n log_after) next (log, one.made, one.log_is, rounds, one.whole refl, one.numbered)

-- a worker that can't go on in a round
pub stopped_in : (rounds count : ℕ) (log log_after : LogOf) (all : Bool) (Stuck : Type 0) → count < rounds → AreRounds count log
    → LogsRound log log_after count all → Stuck → HasDoneRounds rounds log_after Stuck
stopped_in rounds count log log_after all Stuck few done one stuck = record {
  count = count;
  done = log;
  rest = one.made;
  log_is = one.log_is;
  rounds_are = done;
  numbered = one.numbered;
  ends = inr (omega (arith, few), stuck);
}

-- after all rounds a slot is taken to keep
pub kept_one : {T : Type 0} (slots_of : T → List ℕ) (result : Option T) (rounds : ℕ) (log log_after : LogOf) (Stuck : Type 0) → AreRounds rounds log
    → IfSome result (λ taken. LogsJob log log_after rounds Take (slots_of taken)) → IfNone result (log_after ≡ log) → IfNone result Stuck
    → HasDoneRounds rounds log_after Stuck
kept_one slots_of (Some taken) rounds log log_after Stuck done one same stuck = record {
  count = rounds;
  done = log;
  rest = one.reported ∷ [];
  log_is = one.log_is;
  rounds_are = done;
  numbered = (one.number_is, tt);
  ends = inl (refl, ap (λ (job : Job). job ∷ []) one.job_is);
}
kept_one slots_of None rounds log log_after Stuck done one same stuck = record {
  count = rounds;
  done = log_after;
  rest = [];
  log_is = sym (none_behind log_after);
  rounds_are = subst (AreRounds rounds) (sym same) done;
  numbered = tt;
  ends = inr (omega arith, stuck);
} where
  none_behind : (l : LogOf) → l ++ [] ≡ l
  none_behind [] = refl
  none_behind (reported ∷ l) = ap (λ (m : LogOf). reported ∷ m) (none_behind l)
