use Rattle.std.specs.Prelude.{◌≡◌, ◌≢◌, ◌⊎◌, ℕ, ◌≤◌, false, Option, None, Some, Result, MatchResult}
use Rattle.turns.specs.Attempt.{begin_with}
use Rattle.turns.specs.World.{Does}
use Rattle.desks.specs.Parts.{Begins}
use Rattle.xbar_office.specs.declared.job.Job.{Job}
use Rattle.xbar_office.specs.declared.reply.Record.{Record}
use Rattle.xbar_jobs.specs.Jobs.{first_conn}
use Rattle.xbar_moves.specs.Exchange.{is_idle}
use Rattle.xbar_moves.specs.Moves.{given_by, refusal_of}
use Rattle.xbar_moves.specs.declared.kinds.AssignFault.{AssignFault}
use Rattle.xbar_moves.specs.declared.event.Given.TheVariants as given
use Rattle.xbar_fabric.specs.Views.{DeskView, marker_of, mine}
use Rattle.xbar_markers.specs.Work.{HasDone, HasMadeSteps, IsDoing, assigned_to}
use Rattle.xbar_markers.specs.declared.handing.Handed.{Handed}
use Rattle.xbar_markers.specs.declared.handing.Handed.TheVariants.{Finished, Given}
use Rattle.xbar_markers.specs.declared.handing.Then.{Then}
use Rattle.xbar_markers.specs.declared.handing.Then.TheVariants.{GiveBack}

-- the desk was left during this job, after exactly so many of its steps
pub record IsLeft (before : DeskView) (number : ℕ) (job : Job) (stop : ℕ) (left : DeskView)
    : Type 0 where
  pub doing : IsDoing number job before left
  pub busy : is_idle left.work ≡ false
  pub made : HasMadeSteps stop (assigned_to before number job) left

-- the desk did this job by so many steps or fewer, and this is its record
pub record HasEnded (before : DeskView) (number : ℕ) (job : Job) (stop : ℕ) (after : DeskView)
    (r : Record) : Type 0 where
  pub done : HasDone before after number job r
  pub count : ℕ
  pub few : count ≤ stop
  pub made : HasMadeSteps count (assigned_to before number job) after

-- the desk was left during this job after so many steps; or the job ended by then, and this is its
-- record
abbrev pub IsAtHand : DeskView → ℕ → Job → ℕ → DeskView → Option Record → Type 0
IsAtHand before number job stop after None = IsLeft before number job stop after
IsAtHand before number job stop after (Some r) = HasEnded before number job stop after r

-- the outcome of beginning a job: the desk has made so many of its steps, or all of them; or the
-- job was refused and nothing changed
abbrev pub IsBegun : DeskView → ℕ → Job → ℕ → DeskView → Result (Option Record) AssignFault
    → Type 0
IsBegun before number job stop after begun = MatchResult begun
    (λ ended. (refusal_of (marker_of before) job ≡ None)
    × IsAtHand before number job stop after ended)
    (λ fault. (refusal_of (marker_of before) job ≡ Some fault) × (after ≡ before))

-- the desk gave back: it is at the very beginning of this job, so that it holds no connector, and
-- its own records are as before
pub record HasGiven (before after : DeskView) (number : ℕ) (job : Job) : Type 0 where
  pub same : after
      ≡ record before { work = Does number (begin_with (first_conn job) job); seen = after.seen }
  pub seen : Begins before.seen after.seen
  pub mine_are : mine after ≡ mine before

-- a job that was left like this was taken over: it was brought to its end by further steps; or, if
-- that was asked for and it was before its turn, it was given back
abbrev pub IsTakenOver : DeskView → ℕ → Job → Then → DeskView → DeskView → Handed → Type 0
IsTakenOver before number job then left after (Finished r) =
    (then ≡ GiveBack → given_by left.work ≢ given.Given)
    × HasDone before after number job r
    × (count : ℕ) × HasMadeSteps count left after
IsTakenOver before number job then left after Given =
    (then ≡ GiveBack) × (given_by left.work ≡ given.Given) × HasGiven before after number job

-- the job ended by the steps of the first worker, and its record was handed over
pub record HasHandedRecord (before : DeskView) (number : ℕ) (job : Job) (stop : ℕ)
    (after : DeskView) (handed : Handed) : Type 0 where
  pub r : Record
  pub handed_is : handed ≡ Finished r
  pub ended : HasEnded before number job stop after r

-- the outcome of a job that was handed over after so many steps: it had ended by then; or it was
-- left there, and taken over
abbrev pub IsHanded : DeskView → ℕ → Job → ℕ → Then → DeskView → Handed → Type 0
IsHanded before number job stop then after handed =
    HasHandedRecord before number job stop after handed
    ⊎ ((left : DeskView) × IsLeft before number job stop left
    × IsTakenOver before number job then left after handed)
