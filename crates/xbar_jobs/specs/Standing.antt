use Rattle.std.specs.Prelude.{◌≡◌, ◌<◌, ◌≤◌, ◌+◌, ℕ, Option, IsSome, List, length, ⊤}
use Rattle.turns.specs.Among.{IsIn, AreDistinct}
use Rattle.turns.specs.Attempt as generic
use Rattle.turns.specs.Script.{left}
use Rattle.turns.specs.declared.phase.Phase.TheVariants.{Requests, Seizes, Tests, Turns, Withdraws, GivesBack, Operates}
use Rattle.attempts.specs.Validity as standing
use Rattle.attempts.specs.Validity.{IsValidInBounds}
use Rattle.xbar_equip.specs.Conn.{IsConn, conn_eq}
use Rattle.xbar_equip.specs.Word.{word_count}
use Rattle.xbar_equip.specs.declared.conn.Conn.{Conn}
use Rattle.xbar_plan.specs.Tables.{Tables}
use Rattle.xbar_office.specs.Legal.{IsJob}
use Rattle.xbar_office.specs.declared.job.Job.{Job}
use Rattle.xbar_office.specs.declared.reply.Reply.{Reply}
use Rattle.xbar_jobs.specs.Attempt.{Attempt, Phase, next_step}
use Rattle.xbar_jobs.specs.Closing.{effects as effects_of}
use Rattle.xbar_jobs.specs.Jobs.{job_line, script}
use Rattle.xbar_jobs.specs.Keeping.{AreEffects}
use Rattle.xbar_jobs.specs.Office.{office}
use Rattle.xbar_jobs.specs.Others.{SeizesOthers, others_in}
use Rattle.xbar_jobs.specs.Tracing.{ResumePointIsValid}
use Rattle.xbar_jobs.specs.Turning.{IsStep}
use Rattle.xbar_jobs.specs.declared.decision.Decision.{Decision}
use Rattle.xbar_jobs.specs.declared.program.Step.{Step}
use Rattle.xbar_jobs.specs.declared.walk.WalkProgress.{WalkProgress}

-- the most words that an attempt ever reads
abbrev pub most_readings : ℕ
most_readings = 42

-- the most connectors that an attempt ever holds
abbrev pub most_held : ℕ
most_held = 18

-- the most connectors besides line link frames that an attempt ever holds
abbrev pub most_others : ℕ
most_others = 8

-- the most seizings of a script, counting also those of connectors that are held already
abbrev pub most_seizings : ℕ
most_seizings = 19

-- the most effects of a job
abbrev pub most_effects : ℕ
most_effects = 14

-- the most steps of an attempt that is never denied and never repeats a seizing
abbrev pub most_steps : ℕ
most_steps = 128

-- the connector or word of a phase, if it has one, is one of the office's
abbrev pub IsPhase : Phase → Type 0
IsPhase (Requests conn) = IsConn conn
IsPhase (Seizes conn expected) = IsConn conn
IsPhase (Tests word) = word < word_count
IsPhase Turns = ⊤
IsPhase (Withdraws conn) = IsConn conn
IsPhase GivesBack = ⊤
IsPhase (Operates turn) = ⊤

-- all of these are connectors of the office
abbrev pub AreConns : List Conn → Type 0
AreConns conns = (conn : Conn) → IsIn conn conns → IsConn conn

-- an attempt that has decided has a reply
abbrev pub HasReplyIn : Phase → Option Reply → Type 0
HasReplyIn Turns reply = IsSome reply
HasReplyIn (Operates turn) reply = IsSome reply
HasReplyIn (Requests conn) reply = ⊤
HasReplyIn (Seizes conn expected) reply = ⊤
HasReplyIn (Tests word) reply = ⊤
HasReplyIn (Withdraws conn) reply = ⊤
HasReplyIn GivesBack reply = ⊤

-- what holds of every attempt, whatever the plan: its job, its connectors, its words and its
-- effects are the office's, and it has a reply once it has decided
pub record IsAttempt (a : Attempt) : Type 0 where
  pub job : IsJob a.job
  pub phase : IsPhase a.phase
  pub held : AreConns a.held
  pub reply : HasReplyIn a.phase a.reply
  pub effects : AreEffects a.effects

-- the step is the attempt's next one, and its connector or word is one of the office's
pub record IsNextStep (a : Attempt) (step : Step) : Type 0 where
  pub step_is : step ≡ next_step a
  pub range : IsStep step

-- the attempt holds connectors of the office, none of them twice; those besides line link frames,
-- together with those that its script may still seize, are at most eight
pub record HoldsFew (plan : Tables) (a : Attempt) : Type 0 where
  pub conns : AreConns a.held
  pub distinct : AreDistinct a.held
  pub more : ℕ
  pub fits : others_in a.held + more ≤ most_others
  pub seizes : SeizesOthers more (left conn_eq (generic.seen_of a) (script plan a.job))

-- the attempt holds few connectors, which is needed only as long as it goes through its script
abbrev pub HoldsFewIn : Tables → Attempt → Phase → Type 0
HoldsFewIn plan a (Requests conn) = HoldsFew plan a
HoldsFewIn plan a (Seizes conn expected) = HoldsFew plan a
HoldsFewIn plan a (Tests word) = HoldsFew plan a
HoldsFewIn plan a Turns = ⊤
HoldsFewIn plan a (Withdraws conn) = ⊤
HoldsFewIn plan a GivesBack = ⊤
HoldsFewIn plan a (Operates turn) = ⊤

-- an attempt is valid under this plan: its phase is what the walk of its script comes to, and
-- there is room for all that it may still seize and read
pub record IsValid (plan : Tables) (a : Attempt) : Type 0 where
  pub place : IsValidInBounds (office plan) most_readings most_seizings a
  pub few : length a.held ≤ most_held
  pub holds : HoldsFewIn plan a a.phase

-- the run-time form of an attempt, with its decision and its resume point
abbrev pub Doing : Type 0
Doing = standing.AttemptView Conn Job Decision WalkProgress

-- the reply of a decision
abbrev pub reply_of : Decision → Reply
reply_of decision = decision.reply

-- the attempt that a run-time form represents
abbrev pub attempt_at : Doing → Attempt
attempt_at p = standing.attempt_of reply_of effects_of p

-- what every program keeps, whatever the plan: its attempt is one of the office, and its resume
-- point is valid
pub record IsProgram (p : Doing) : Type 0 where
  pub attempt : IsAttempt (attempt_at p)
  pub valid_point : standing.ResumePointIsValidIn
      (λ job point seen. ResumePointIsValid (job_line job) point seen) (attempt_at p)
      p.point p.phase
