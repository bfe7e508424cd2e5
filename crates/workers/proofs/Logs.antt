-- what a desk's work comes to, step by step
use Rattle.std.proofs.Common.{◌≡◌, ℕ, ◌≤◌, ◌<◌, ◌^◌, List, [], ◌∷◌, ◌++◌, length, refl, sym, ap, subst, ◌∙◌, inl, ◌+◌, length-append, arith, Bool, true, Option}
use Rattle.std.proofs.Common.{Some, None, IfSome, option_to_list}
use Rattle.{turns.specs.{Among.IsIn, Clock.IsCounted, Law.IsLegal, System.System, World.{ActorOf, RecordOf}}, desks.specs.Desks.{assigned_if, as_record}}
use Rattle.desks.specs.{Met.DeskOf, Parts.Begins, Reports.{ComesAfter, HasWorked, job_of, unreported}, Views.{RoomView, new_desk}}
use Rattle.{desks.specs.declared.progress.JobRecord.JobRecord, workers.specs.Workers.{HasFinished, HasLast, IsAfter, IsLogOf, LogsOne, records}}

module _ (O : System) where
  abbrev Order : Type 0
  Order = List (RecordOf O)

  -- a desk that has reported nothing yet works on
  pub finished_more : {Setting : Type 0} (a b c : DeskOf O Setting) (result : Option (JobRecord O.Job O.Reply))
      → ((k : ℕ) (a b c : ActorOf O) (s t u reported more : Order) → HasWorked O k a b s t reported → HasWorked O k b c t u more
      → HasWorked O k a c s u (reported ++ more))
      → HasFinished O a b None → HasFinished O b c result → HasFinished O a c result
  finished_more a b c result both one other = record {
    number = other.number ∙ one.number;
    worked =
        both a.number a.actor b.actor c.actor a.seen b.seen c.seen [] (records (option_to_list result)) one.worked
        (subst (λ (k : ℕ). HasWorked O k b.actor c.actor b.seen c.seen (records (option_to_list result))) one.number other.worked);
    job = other.job ∙ one.job;
    its_job = its result other.its_job;
  } where
    its : (r : Option (JobRecord O.Job O.Reply)) → IfSome r (λ reported. job_of O b.actor ≡ Some (reported.number, reported.job))
        → IfSome r (λ reported. job_of O a.actor ≡ Some (reported.number, reported.job))
    its None none = tt
    its (Some reported) is = sym one.job ∙ is

  -- a new desk has an empty log
  pub new_log : {Setting : Type 0} (room : RoomView Setting) (i : ℕ) (desk : DeskOf O Setting) → desk ≡ new_desk room i → IsLogOf O desk []
  new_log {Setting} room i desk e = subst (λ (d : DeskOf O Setting). IsLogOf O d []) (sym e) refl

  -- an actor that was just assigned a job has no unreported record
  none_yet : (k number : ℕ) (job : O.Job) (m before : ActorOf O) (free : Bool) → before ≡ assigned_if O free number job m → free ≡ true
      → unreported O k before ≡ []
  none_yet k number job m before free is taken = ap (unreported O k) is ∙ ap (λ (b : Bool). unreported O k (assigned_if O b number job m)) taken

  -- a job of a desk that had learned a note comes after the noted turns
  pub after_noted : (k number : ℕ) (job : O.Job) (m before after : ActorOf O) (free : Bool) (noted seen seen_after : Order)
      (result : Option (JobRecord O.Job O.Reply))
      → ((earlier r : RecordOf O) → IsCounted O.clock → Begins noted seen → IsIn earlier noted → ComesAfter O seen seen_after r
      → IsLegal O 0 O.opening seen_after → length seen_after ≤ 2 ^ 64 → earlier.turn < r.turn)
      → ((reported : Order) (r : RecordOf O) → HasWorked O k before after seen seen_after reported → unreported O k before ≡ []
      → IsLegal O 0 O.opening seen_after → IsIn r reported → ComesAfter O seen seen_after r)
      → Begins noted seen → before ≡ assigned_if O free number job m → free ≡ true → IsLegal O 0 O.opening seen_after
      → HasWorked O k before after seen seen_after (records (option_to_list result))
      → IfSome result (λ reported. IsCounted O.clock → length seen_after ≤ 2 ^ 64 → IsAfter noted reported)
  after_noted k number job m before after free noted seen seen_after None precedes comes begins is taken legal worked = tt
  after_noted k number job m before after free noted seen seen_after (Some reported) precedes comes begins is taken legal worked = λ counted few earlier within.
      precedes earlier (as_record reported) counted begins within
      (comes (as_record reported ∷ []) (as_record reported) worked (none_yet k number job m before free is taken) legal (inl refl)) legal few

  pub comes_noted : (k number : ℕ) (job : O.Job) (m before after : ActorOf O) (free : Bool) (noted seen seen_after : Order)
      (result : Option (JobRecord O.Job O.Reply))
      → ((r : RecordOf O) → Begins noted seen → ComesAfter O seen seen_after r → ComesAfter O noted seen_after r)
      → ((reported : Order) (r : RecordOf O) → HasWorked O k before after seen seen_after reported → unreported O k before ≡ []
      → IsLegal O 0 O.opening seen_after → IsIn r reported → ComesAfter O seen seen_after r)
      → Begins noted seen → before ≡ assigned_if O free number job m → free ≡ true → IsLegal O 0 O.opening seen_after
      → HasWorked O k before after seen seen_after (records (option_to_list result))
      → IfSome result (λ reported. ComesAfter O noted seen_after (as_record reported))
  comes_noted k number job m before after free noted seen seen_after None earlier comes begins is taken legal worked = tt
  comes_noted k number job m before after free noted seen seen_after (Some reported) earlier comes begins is taken legal worked =
      earlier (as_record reported) begins (comes (as_record reported ∷ []) (as_record reported) worked (none_yet k number job m before free is taken) legal
      (inl refl))

  pub behind_noted : (k number : ℕ) (job : O.Job) (m before after : ActorOf O) (free : Bool) (noted seen seen_after : Order)
      (result : Option (JobRecord O.Job O.Reply))
      → ((reported : Order) (r : RecordOf O) → HasWorked O k before after seen seen_after reported → unreported O k before ≡ []
      → IsLegal O 0 O.opening seen_after → IsIn r reported → ComesAfter O seen seen_after r)
      → Begins noted seen → before ≡ assigned_if O free number job m → free ≡ true → IsLegal O 0 O.opening seen_after
      → HasWorked O k before after seen seen_after (records (option_to_list result))
      → IfSome result (λ reported. IsCounted O.clock → length seen_after ≤ 2 ^ 64 → length noted ≤ reported.turn)
  behind_noted k number job m before after free noted seen seen_after None comes begins is taken legal worked = tt
  behind_noted k number job m before after free noted seen seen_after (Some reported) comes begins is taken legal worked = λ counted few.
      let late =
      (comes (as_record reported ∷ []) (as_record reported) worked (none_yet k number job m before free is taken) legal (inl refl)).turn counted few in
      let long : length seen ≡ length noted + length begins.0 = ap length begins.1 ∙ length-append noted begins.0 in
      omega (arith, late, long)

  -- an actor that was just assigned a job is at this job
  pub at_its_job : (number : ℕ) (job : O.Job) (m before : ActorOf O) (free : Bool) → before ≡ assigned_if O free number job m → free ≡ true
      → job_of O before ≡ Some (number, job)
  at_its_job number job m before free is taken = ap (job_of O) is ∙ ap (λ (b : Bool). job_of O (assigned_if O b number job m)) taken

-- a job and its number are told by their pair
pub same_job : {Job : Type 0} (number other_number : ℕ) (job other : Job) → ◌≡◌ {A = Option (ℕ × Job)} (Some (number, job)) (Some (other_number, other))
    → (number ≡ other_number) × (job ≡ other)
same_job {Job} number other_number job other same = (ap number_in same, ap job_in same) where
  number_in : Option (ℕ × Job) → ℕ
  number_in None = number
  number_in (Some x) = x.0

  job_in : Option (ℕ × Job) → Job
  job_in None = job
  job_in (Some x) = x.1

module _ {A : Type 0} where
  abbrev final : A → List A → A
  final x [] = x
  final x (y ∷ ys) = final y ys

  final_is : (first x : A) (xs : List A) → final first (xs ++ x ∷ []) ≡ x
  final_is first x [] = refl
  final_is first x (y ∷ ys) = final_is y x ys

  -- a list has one last item
  pub same_last : (xs : List A) (x y : A) → HasLast xs x → HasLast xs y → x ≡ y
  same_last xs x y one other = sym (final_is x x one.0) ∙ ap (final x) (sym one.1 ∙ other.1) ∙ final_is x y other.0

-- the record that was logged is the last of the log
pub logged_last : {Job Reply : Type 0} (log log_after : List (JobRecord Job Reply)) (number : ℕ) (job : Job) (reported : JobRecord Job Reply)
    (one : LogsOne log log_after number job) → HasLast log_after reported → one.reported ≡ reported
logged_last log log_after number job reported one last = same_last log_after one.reported reported (log, one.log_is) last
