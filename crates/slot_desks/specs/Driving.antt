-- what a worker that takes and frees slots logs
use Rattle.std.specs.Prelude.{◌≡◌, ◌⊎◌, ◌≤◌, ◌<◌, ◌%◌, ◌==◌, ◌++◌, ℕ, zero, suc, Bool, true, List, [], ◌∷◌, map, if◌then◌else◌, ⊤}
use Rattle.turns.specs.Among.{IsIn}
use Rattle.turns.specs.Runs.{is_available}
use Rattle.desks.specs.Met.{DeskOf}
use Rattle.desks.specs.Parts.{Begins}
use Rattle.desks.specs.declared.progress.JobRecord.{JobRecord}
use Rattle.slots.specs.System.{slots}
use Rattle.slots.specs.declared.bank.TheConstants.{SLOT_COUNT}
use Rattle.slots.specs.declared.job.Job.{Job}
use Rattle.slots.specs.declared.job.Job.TheVariants.{Give, Take, TakeBoth}
use Rattle.workers.specs.Tries.{AnswersPausing, IsStuck}

-- a record of a job, and a list of such records
abbrev pub Recorded : Type 0
Recorded = JobRecord Job (List ℕ)

abbrev pub LogOf : Type 0
LogOf = List Recorded

-- each of these numbers is one of a slot
abbrev pub AreSlots : List ℕ → Type 0
AreSlots taken = (slot : ℕ) → IsIn slot taken → slot < SLOT_COUNT

-- a desk is at no job
abbrev pub IsFree : DeskOf slots (Unit {0}) → Type 0
IsFree desk = is_available slots desk.actor ≡ true

-- a worker can't go on: its log of this length and capacity has no room, or it has given up its
-- desk's job
abbrev pub CantGoOn : ℕ → ℕ → DeskOf slots (Unit {0}) → Type 0
CantGoOn len capacity desk = IsStuck slots AnswersPausing len capacity desk.actor

-- one more record was logged: of this job, under this number, with these slots as its reply
pub record LogsJob (log log_after : LogOf) (number : ℕ) (job : Job) (taken : List ℕ) : Type 0 where
  pub reported : Recorded
  pub log_is : log_after ≡ log ++ reported ∷ []
  pub number_is : reported.number ≡ number
  pub job_is : reported.job ≡ job
  pub reply_is : reported.reply ≡ taken

-- each of these records has this number
abbrev pub AreNumbered : ℕ → LogOf → Type 0
AreNumbered number [] = ⊤
AreNumbered number (reported ∷ log) = (reported.number ≡ number) × AreNumbered number log

-- the jobs of these records
abbrev pub jobs : LogOf → List Job
jobs log = map (λ reported. reported.job) log

-- records were logged under this number, of jobs that freed these slots, in their order; true says
-- that they freed all of them
pub record LogsGiving (log log_after : LogOf) (number : ℕ) (taken : List ℕ) (all : Bool)
    : Type 0 where
  pub given : LogOf
  pub log_is : log_after ≡ log ++ given
  pub numbered : AreNumbered number given
  pub jobs_are : Begins (jobs given) (map Give taken)
  pub all_given : all ≡ true → jobs given ≡ map Give taken

-- the job by which a round takes slots: one slot in even rounds, one of each bank in odd ones
abbrev pub taking_in : ℕ → Job
taking_in round = if round % 2 == 0 then Take else TakeBoth

-- the records of a whole round: a job took slots, and others freed these, in their order
pub record IsRound (round : ℕ) (log : LogOf) : Type 0 where
  pub taking : Recorded
  pub giving : LogOf
  pub log_is : log ≡ taking ∷ giving
  pub job_is : taking.job ≡ taking_in round
  pub given : jobs giving ≡ map Give taking.reply

-- records of a round were logged under its number; true says that they are those of all of it
pub record LogsRound (log log_after : LogOf) (round : ℕ) (all : Bool) : Type 0 where
  pub made : LogOf
  pub log_is : log_after ≡ log ++ made
  pub numbered : AreNumbered round made
  pub whole : all ≡ true → IsRound round made

-- the records of this many whole rounds, one after another: round 0 has the number 0, and so on
abbrev pub AreRounds : ℕ → LogOf → Type 0
AreRounds zero log = log ≡ []
AreRounds (suc count) log =
    (before : LogOf) × (last : LogOf) × (log ≡ before ++ last) × AreRounds count before
    × IsRound count last × AreNumbered count last

-- a log has the records of this many rounds, and of one job more, which took a slot to keep; or it
-- ends in one of them, since the worker can't go on
pub record HasDoneRounds (rounds : ℕ) (log : LogOf) (Stuck : Type 0) : Type 0 where
  pub count : ℕ
  pub done : LogOf
  pub rest : LogOf
  pub log_is : log ≡ done ++ rest
  pub rounds_are : AreRounds count done
  pub numbered : AreNumbered count rest
  pub ends : ((count ≡ rounds) × (jobs rest ≡ Take ∷ [])) ⊎ ((count ≤ rounds) × Stuck)
