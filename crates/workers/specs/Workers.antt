-- desks at work, their logs, and what these are once the room is shut
use Rattle.std.specs.Prelude.{◌≡◌, ◌+◌, ◌<◌, ◌^◌, ◌++◌, ℕ, List, [], ◌∷◌, IfSome, Option, Some, map, option_to_list, slice_get}
use Rattle.turns.specs.Among.{IsIn}
use Rattle.turns.specs.System.{System}
use Rattle.turns.specs.World.{Record, RecordOf}
use Rattle.desks.specs.Desks.{as_record}
use Rattle.desks.specs.Met.{DeskOf, HasClosed}
use Rattle.desks.specs.Parts.{own}
use Rattle.desks.specs.Reports.{HasWorked, MakeUp, job_of, unreported}
use Rattle.desks.specs.Views.{DeskView, IsDeskOf, RoomView, new_desk}
use Rattle.desks.specs.declared.progress.JobRecord.{JobRecord}

-- records that desks have reported, as records of the law
abbrev pub records : {Job Reply : Type 0} → List (JobRecord Job Reply) → List (Record Job Reply)
records reported = map as_record reported

-- the turn of a reported job is later than each of these turns
abbrev pub IsAfter : {Job Reply : Type 0} → List (Record Job Reply) → JobRecord Job Reply → Type 0
IsAfter {Job} {Reply} seen reported = (r : Record Job Reply) → IsIn r seen → r.turn < reported.turn

-- this item is the last of the list
abbrev pub HasLast : {A : Type 0} → List A → A → Type 0
HasLast {A} xs x = (before : List A) × (xs ≡ before ++ x ∷ [])

-- one more record was logged: of this job, under this number
pub record LogsOne {Job Reply : Type 0} (log log_after : List (JobRecord Job Reply)) (number : ℕ)
    (job : Job) : Type 0 where
  pub reported : JobRecord Job Reply
  pub log_is : log_after ≡ log ++ reported ∷ []
  pub number_is : reported.number ≡ number
  pub job_is : reported.job ≡ job

-- a rule that names the next job of a desk, by the desk's number and the number of jobs that it has
-- ended: it may be asked for each, and names only jobs of the system
pub record AssignsJobs {Job : Type 0} (IsJob : Job → Type 0) (MayAsk : ℕ → ℕ → Type 0)
    (Names : ℕ → ℕ → Option Job → Type 0)
    : Type 0 where
  pub may_ask : (desk ended : ℕ) → desk < 2 ^ 32 → ended + 1 < 2 ^ 64 → MayAsk desk ended
  pub are_jobs : (desk ended : ℕ) (job : Job) → desk < 2 ^ 32 → ended + 1 < 2 ^ 64
      → Names desk ended (Some job) → IsJob job

-- the records of a log have the numbers 0, 1, 2 and so on, and each is of a job that a rule names
-- for its number
abbrev pub AreAssigned : {Job Reply : Type 0} → (ℕ → Option Job → Type 0)
    → List (JobRecord Job Reply) → Type 0
AreAssigned Names log = (i : ℕ)
    → IfSome (slice_get log i) (λ reported. (reported.number ≡ i) × Names i (Some reported.job))

module _ {Setting Lock Job Reply Effect : Type 0} where
  -- desks of a room that has just opened, each at the index of its number
  abbrev pub AreNewDesks : RoomView Setting → List (DeskView Setting Lock Job Reply Effect)
      → Type 0
  AreNewDesks room desks = (i : ℕ) → IfSome (slice_get desks i) (λ desk. desk ≡ new_desk room i)

  -- desks of this room, perhaps with jobs under way, each at the index of its number
  abbrev pub AreAtWork : RoomView Setting → Setting → List (DeskView Setting Lock Job Reply Effect)
      → Type 0
  AreAtWork room setting desks = (i : ℕ)
      → IfSome (slice_get desks i) (λ desk. IsDeskOf desk room setting × (desk.number ≡ i))

module _ (O : System) where
  -- a log of all that a desk has reported: the desk's own records are those of the log, followed
  -- from the turn of its job to the job's end by the record of this job
  abbrev pub IsLogOf : {Setting : Type 0} → DeskOf O Setting → List (JobRecord O.Job O.Reply)
      → Type 0
  IsLogOf desk log =
      own desk.number desk.seen ≡ records log ++ unreported O desk.number desk.actor

  -- a desk worked on its job. Either it reported the job's record at the job's end, or it reported
  -- nothing.
  pub record HasFinished {Setting : Type 0} (desk after : DeskOf O Setting)
      (result : Option (JobRecord O.Job O.Reply))
      : Type 0 where
    pub number : after.number ≡ desk.number
    pub worked : HasWorked O desk.number desk.actor after.actor desk.seen after.seen
        (records (option_to_list result))
    pub job : job_of O after.actor ≡ job_of O desk.actor
    pub its_job : IfSome result
        (λ reported. job_of O desk.actor ≡ Some (reported.number, reported.job))

  -- a room was shut with these desks, each idle: the words show the state after one legal order of
  -- jobs, each done whole, and these logs make up the order
  pub record HaveShut {Setting : Type 0} (desks : List (DeskOf O Setting))
      (logs : List (List (RecordOf O))) (words : List ℕ)
      : Type 0 where
    pub closed : HasClosed O desks words
    pub made_up : MakeUp O logs closed.order
