-- What desks have done between two moments.
use Rattle.std.specs.Prelude.{◌≡◌, ℕ, zero, suc, ◌≤◌, ◌<◌, ◌^◌, Option, Some, None, false, true, List, [], ◌∷◌, ◌++◌, All, length}
use Rattle.turns.specs.Attempt.{begin_with}
use Rattle.turns.specs.World.{Does}
use Rattle.fair_queue.specs.Items.{SameItems}
use Rattle.desks.specs.Parts.{Begins}
use Rattle.desks.specs.Watching.{watched_more}
use Rattle.xbar_office.specs.declared.job.Job.{Job}
use Rattle.xbar_office.specs.declared.reply.Record.{Record}
use Rattle.xbar_jobs.specs.Jobs.{first_conn}
use Rattle.xbar_moves.specs.Exchange.{is_idle}
use Rattle.xbar_moves.specs.declared.event.Event.{Event}
use Rattle.xbar_moves.specs.declared.event.Event.TheVariants.{Idle, Moved, Refused, Preferred, Finished}
use Rattle.xbar_fabric.specs.Advances.{MarkerHasAdvanced}
use Rattle.xbar_moves.specs.Kinds.{takes}
use Rattle.xbar_fabric.specs.Histories.{job_at, turned_of}
use Rattle.xbar_fabric.specs.Views.{DeskView, FabricView, IsDeskOf, mine}

-- the desk once this job is assigned to it under this number
abbrev pub assigned_to : DeskView → ℕ → Job → DeskView
assigned_to desk number job = record desk { work = Does number (begin_with (first_conn job) job) }

-- a number of steps of the desk, each of a job that is under way, between which others may make
-- theirs
abbrev pub HasMadeSteps : ℕ → DeskView → DeskView → Type 0
HasMadeSteps zero before after = after ≡ before
HasMadeSteps (suc count) before after =
    (between : DeskView) × (event : Event) × HasMadeSteps count before between
    × (is_idle between.work ≡ false) × MarkerHasAdvanced between after event

-- the desk is at this job under this number, and has done nothing else since this start: its own
-- records have grown only by the job's, once it has taken its turn
pub record IsDoing (number : ℕ) (job : Job) (start desk : DeskView) : Type 0 where
  pub same : desk ≡ record start { work = desk.work; seen = desk.seen }
  pub seen : Begins start.seen desk.seen
  pub mine_are : mine desk ≡ mine start ++ turned_of desk
  pub at : job_at desk.work ≡ Some (number, job)

-- the desk did this job under this number, and nothing else
pub record HasDone (before after : DeskView) (number : ℕ) (job : Job) (r : Record) : Type 0 where
  pub same : after ≡ record before { work = after.work; seen = after.seen }
  pub idle : is_idle after.work ≡ true
  pub seen : Begins before.seen after.seen
  pub mine_are : mine after ≡ mine before ++ r ∷ []
  pub marker : r.marker ≡ before.marker
  pub number_is : r.job_no ≡ number
  pub job_is : r.job ≡ job
  pub turn : length after.seen < 2 ^ 64
      → (length before.seen ≤ r.turn) × (r.turn < length after.seen)

-- the desk is at this job still; or it has done it, and this is its record
abbrev pub IsDoneOr : ℕ → Job → DeskView → DeskView → Option Record → Type 0
IsDoneOr number job start desk None = IsDoing number job start desk
IsDoneOr number job start desk (Some r) = HasDone start desk number job r

-- the desk has worked, and is idle again: its own records have grown by these, of jobs that it
-- takes
pub record WorkerHasWorked (before after : DeskView) (its : List Record) : Type 0 where
  pub same : after ≡ record before { work = after.work; seen = after.seen }
  pub idle : is_idle after.work ≡ true
  pub seen : Begins before.seen after.seen
  pub mine_are : mine after ≡ mine before ++ its
  pub taken : All (λ r. takes before.kind r.job ≡ true) its

-- each of the desks has worked, and all their records together are these
abbrev pub HaveWorked : List DeskView → List DeskView → List Record → Type 0
HaveWorked [] [] records = SameItems [] records
HaveWorked (before ∷ befores) (after ∷ afters) records =
    (its : List Record) × (others : List Record) × SameItems (its ++ others) records
    × WorkerHasWorked before after its × HaveWorked befores afters others
HaveWorked _ _ records = ⊥

-- each desk has seen fewer than 2^64 turns, so that no turn number comes twice
abbrev pub AreShort : List DeskView → Type 0
AreShort desks = All (λ desk. length desk.seen < 2 ^ 64) desks

-- an idle desk of these shared words
pub record IsReady (desk : DeskView) (fabric : FabricView) : Type 0 where
  pub desk_of : IsDeskOf desk fabric
  pub idle : is_idle desk.work ≡ true

-- the record that an event reports, if a job ended
abbrev pub reported_record : Event → Option Record
reported_record (Finished r) = Some r
reported_record Idle = None
reported_record Moved = None
reported_record (Refused conn holder) = None
reported_record (Preferred other) = None

-- the desk advanced, and reported the record of its job if the job ended, and else none
pub record WorkerHasStepped (before after : DeskView) (reported : Option Record) : Type 0 where
  pub event : Event
  pub advanced : MarkerHasAdvanced before after event
  pub same : after ≡ record before { work = after.work; seen = after.seen }
  pub told_is : reported ≡ reported_record event

-- the desk made a number of steps, and its gate was notified of each of them
pub record HasPassed (before after : DeskView) (passed passed_after : Option ℕ) : Type 0 where
  pub count : ℕ
  pub made : HasMadeSteps count before after
  pub passed_is : passed_after ≡ watched_more count passed
