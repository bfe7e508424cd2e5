-- a desk that frees only slots that it has
use Rattle.std.proofs.Common.{◌≡◌, ℕ, Bool, true, false, List, [], ◌∷◌, ◌++◌, map, inl, refl, sym, ◌∙◌, ap, subst, append_assoc, Err, IfNone, IfOk, IfSome}
use Rattle.std.proofs.Common.{None, Ok, Option, Result, Some, if◌then◌else◌, is_some, option_map, slice_get, eq-eqb}
use Rattle.{std.proofs.lemmas.Option.slice_get-map, desks.specs.{Desks.as_record, Parts.Begins, declared.progress.JobRecord.JobRecord}}
use Rattle.{slots.specs.{System.slots, declared.job.Job.{Job, TheVariants.{Take, TakeBoth, Give}}}, slot_desks.specs.Driving.{AreNumbered, LogsGiving, LogsJob}}
use Rattle.{slot_desks.specs.{Driving.jobs, Ended.{GivesIts, GivesOwn, has_after, without}}, workers.specs.Workers.records, turns.specs.World.RecordOf}

abbrev Log : Type 0
Log = List (JobRecord Job (List ℕ))

-- the slots that a desk has after these records
abbrev pub had_after : List ℕ → List (RecordOf slots) → List ℕ
had_after had [] = had
had_after had (r ∷ log) = had_after (has_after had r.job r.reply) log

records_on : (log more : Log) → records (log ++ more) ≡ records log ++ records more
records_on [] more = refl
records_on (reported ∷ log) more = ap (λ l. as_record reported ∷ l) (records_on log more)

own_on : (had : List ℕ) (log more : List (RecordOf slots)) → GivesOwn had log → GivesOwn (had_after had log) more → GivesOwn had (log ++ more)
own_on had [] more one other = other
own_on had (r ∷ log) more one other = (one.0, own_on (has_after had r.job r.reply) log more one.1 other)

had_on : (had : List ℕ) (log more : List (RecordOf slots)) → had_after had (log ++ more) ≡ had_after (had_after had log) more
had_on had [] more = refl
had_on had (r ∷ log) more = had_on (has_after had r.job r.reply) log more

-- a job that takes slots
abbrev pub IsTaking : Job → Type 0
IsTaking job = (had taken : List ℕ) → GivesIts had job × (has_after had job taken ≡ taken ++ had)

-- a log with one job more that takes slots, and what its desk has then
pub record HasTaken (log log_after : Log) (taken : List ℕ) : Type 0 where
  pub own : GivesOwn [] (records log_after)
  pub had_is : had_after [] (records log_after) ≡ taken ++ had_after [] (records log)

pub has_taken : (log log_after : Log) (number : ℕ) (job : Job) (taken : List ℕ) → IsTaking job → GivesOwn [] (records log)
    → LogsJob log log_after number job taken → HasTaken log log_after taken
has_taken log log_after number job taken takes own one =
    let r = as_record one.reported in
    let had = had_after [] (records log) in
    let all : records log_after ≡ records log ++ as_record one.reported ∷ [] = ap records one.log_is ∙ records_on log (one.reported ∷ []) in
    let its = takes had taken in
    record {
      own = subst (GivesOwn []) (sym all) (own_on [] (records log) (r ∷ []) own (subst (GivesIts had) (sym one.job_is) its.0, tt));
      had_is =
          ap (had_after []) all ∙ had_on [] (records log) (r ∷ []) ∙ ap (λ (job : Job). has_after had job r.reply) one.job_is
          ∙ ap (λ (l : List ℕ). has_after had job l) one.reply_is ∙ its.1;
    }

pub worked_own : {T : Type 0} (slots_of : T → List ℕ) (result : Option T) (log log_after : Log) (number : ℕ) (job : Job) → IsTaking job
    → GivesOwn [] (records log) → IfSome result (λ taken. LogsJob log log_after number job (slots_of taken)) → IfNone result (log_after ≡ log)
    → GivesOwn [] (records log_after)
worked_own slots_of (Some taken) log log_after number job takes own one same = (has_taken log log_after number job (slots_of taken) takes own one).own
worked_own slots_of None log log_after number job takes own one same = subst (λ (l : Log). GivesOwn [] (records l)) (sym same) own

first_same : (x y : Job) (xs ys : List Job) → ◌≡◌ {A = List Job} (x ∷ xs) (y ∷ ys) → (x ≡ y) × (xs ≡ ys)
first_same x y xs ys e = (ap first e, ap rest e) where
  first : List Job → Job
  first [] = x
  first (z ∷ zs) = z

  rest : List Job → List Job
  rest [] = []
  rest (z ∷ zs) = zs

without_first : (slot : ℕ) (had : List ℕ) → without slot (slot ∷ had) ≡ had
without_first slot had = ap (λ (b : Bool). if b then had else slot ∷ without slot had) (eq-eqb slot slot refl)

-- slots that a desk took last are its own to free, in their order
give_these : (taken had : List ℕ) (given : Log) → Begins (map (λ reported. reported.job) given) (map Give taken) → GivesOwn (taken ++ had) (records given)
give_these taken had [] begins = tt
give_these [] had (reported ∷ given) begins = absurd (none_first begins.1) where
  none_first : ◌≡◌ {A = List Job} [] (reported.job ∷ (map (λ reported. reported.job) given ++ begins.0)) → ⊥
  none_first e = cc
give_these (slot ∷ taken) had (reported ∷ given) begins =
    let same = first_same (Give slot) reported.job (map Give taken) (map (λ reported. reported.job) given ++ begins.0) begins.1 in
    let left : has_after (slot ∷ (taken ++ had)) reported.job reported.reply ≡ taken ++ had =
    ap (λ (job : Job). has_after (slot ∷ (taken ++ had)) job reported.reply) (sym same.0) ∙ without_first slot (taken ++ had) in (
      subst (GivesIts (slot ∷ (taken ++ had))) same.0 (inl refl),
      subst (λ (l : List ℕ). GivesOwn l (records given)) (sym left) (give_these taken had given (begins.0, same.1)),
    )

-- the same after a job that took slots, and the jobs that freed them
pub gave_own : (log between log_after : Log) (number : ℕ) (job : Job) (taken : List ℕ) (all : Bool) → IsTaking job → GivesOwn [] (records log)
    → LogsJob log between number job taken → LogsGiving between log_after number taken all → GivesOwn [] (records log_after)
gave_own log between log_after number job taken all_of takes own one giving =
    let took = has_taken log between number job taken takes own one in
    let had = had_after [] (records log) in
    let all : records log_after ≡ records between ++ records giving.given = ap records giving.log_is ∙ records_on between giving.given in
    subst (GivesOwn []) (sym all) (own_on [] (records between) (records giving.given) took.own
    (subst (λ (l : List ℕ). GivesOwn l (records giving.given)) (sym took.had_is) (give_these taken had giving.given giving.jobs_are)))

pub takes_one : IsTaking Take
takes_one had taken = (tt, refl)

pub takes_both : IsTaking TakeBoth
takes_both had taken = (tt, refl)

pub takes_either : (b : Bool) → IsTaking (if b then Take else TakeBoth)
takes_either true = takes_one
takes_either false = takes_both

none_behind : (l : Log) → l ++ [] ≡ l
none_behind [] = refl
none_behind (reported ∷ l) = ap (λ (m : Log). reported ∷ m) (none_behind l)

-- what is logged when slots are freed: none of them
pub gave_none : (log log_after : Log) (number : ℕ) (taken : List ℕ) (all : Bool) → log_after ≡ log → (all ≡ true → taken ≡ [])
    → LogsGiving log log_after number taken all
gave_none log log_after number taken all same none = record {
  given = [];
  log_is = same ∙ sym (none_behind log);
  numbered = tt;
  jobs_are = (map Give taken, refl);
  all_given = λ is. sym (ap (map Give) (none is));
}

-- the first of them
gave_first : (log log_after : Log) (number slot : ℕ) (more reply : List ℕ) (all : Bool) → LogsJob log log_after number (Give slot) reply
    → (all ≡ true → more ≡ []) → LogsGiving log log_after number (slot ∷ more) all
gave_first log log_after number slot more reply all one none = record {
  given = one.reported ∷ [];
  log_is = one.log_is;
  numbered = (one.number_is, tt);
  jobs_are = (map Give more, ap (λ (job : Job). job ∷ map Give more) (sym one.job_is));
  all_given = λ is. (λ i. one.job_is i ∷ map Give (sym (none is) i));
}

-- one slot
pub gave_this : {T : Type 0} (slots_of : T → List ℕ) (result : Option T) (log log_after : Log) (number slot : ℕ)
    → IfSome result (λ taken. LogsJob log log_after number (Give slot) (slots_of taken)) → IfNone result (log_after ≡ log)
    → LogsGiving log log_after number (slot ∷ []) (is_some result)
gave_this slots_of (Some taken) log log_after number slot one same = gave_first log log_after number slot [] (slots_of taken) true one (λ is. refl)
gave_this slots_of None log log_after number slot one same = gave_none log log_after number (slot ∷ []) false same (λ is. absurd cc)

numbered_on : (number : ℕ) (one other : Log) → AreNumbered number one → AreNumbered number other → AreNumbered number (one ++ other)
numbered_on number [] other first second = second
numbered_on number (reported ∷ one) other first second = (first.0, numbered_on number one other first.1 second)

jobs_on : (one other : Log) → jobs (one ++ other) ≡ jobs one ++ jobs other
jobs_on [] other = refl
jobs_on (reported ∷ one) other = ap (λ (l : List Job). reported.job ∷ l) (jobs_on one other)

-- one slot was freed, and then more of them
pub gave_on : (log between log_after : Log) (number slot : ℕ) (more : List ℕ) (all : Bool) → LogsGiving log between number (slot ∷ []) true
    → LogsGiving between log_after number more all → LogsGiving log log_after number (slot ∷ more) all
gave_on log between log_after number slot more all one two =
    let first = one.all_given refl in
    record {
      given = one.given ++ two.given;
      log_is = two.log_is ∙ ap (λ (l : Log). l ++ two.given) one.log_is ∙ append_assoc log one.given two.given;
      numbered = numbered_on number one.given two.given one.numbered two.numbered;
      jobs_are = (
        two.jobs_are.0,
        ap (λ (l : List Job). Give slot ∷ l) two.jobs_are.1 ∙ ap (λ (l : List Job). l ++ (jobs two.given ++ two.jobs_are.0)) (sym first)
            ∙ sym (append_assoc (jobs one.given) (jobs two.given) two.jobs_are.0)
            ∙ ap (λ (l : List Job). l ++ two.jobs_are.0) (sym (jobs_on one.given two.given)),
      );
      all_given = λ is. jobs_on one.given two.given ∙ (λ i. first i ++ two.all_given is i);
    }

-- the first slot was freed, and not the second
pub gave_half : (log log_after : Log) (number slot : ℕ) (more : List ℕ) → LogsGiving log log_after number (slot ∷ []) false
    → LogsGiving log log_after number (slot ∷ more) false
gave_half log log_after number slot more one = record {
  given = one.given;
  log_is = one.log_is;
  numbered = one.numbered;
  jobs_are = (
    one.jobs_are.0 ++ map Give more,
    ap (λ (l : List Job). l ++ map Give more) one.jobs_are.1 ∙ append_assoc (jobs one.given) one.jobs_are.0 (map Give more),
  );
  all_given = λ is. absurd cc;
}

-- what follows from what is known of an Ok
pub if_ok : {A E : Type 0} (P Q : A → Type 0) (r : Result A E) → ((a : A) → P a → Q a) → IfOk r P → IfOk r Q
if_ok P Q (Ok a) follows holds = follows a holds
if_ok P Q (Err e) follows holds = tt

-- what holds of each item of a list by its place, and so of a part of it, holds in the list of these parts
pub of_places : {X Y : Type 0} (f : X → Y) (Q : ℕ → X → Type 0) (P : Y → Type 0) (xs : List X) → ((i : ℕ) (x : X) → Q i x → P (f x))
    → ((i : ℕ) → IfSome (slice_get xs i) (Q i)) → (i : ℕ) → IfSome (slice_get (map f xs) i) P
of_places {X} f Q P xs follows each i = subst (λ o. IfSome o P) (sym (slice_get-map f xs i)) (at (slice_get xs i) (each i)) where
  at : (o : Option X) → IfSome o (Q i) → IfSome (option_map f o) P
  at None holds = tt
  at (Some x) holds = follows i x holds
