use Rattle.std.specs.Prelude.{◌≡◌, ℕ, zero, suc, ◌+◌, ◌≤◌, Option, None, Some, length, slice_get, true, false}
use Rattle.turns.specs.Attempt.{begin_with}
use Rattle.turns.specs.declared.answer.Answer.{Answer}
use Rattle.turns.specs.World as worlds
use Rattle.turns.specs.World.{Does}
use Rattle.desks.specs.Desks.{asked_by}
use Rattle.desks.specs.Parts.{Begins}
use Rattle.xbar_office.specs.declared.reply.Record.{Record}
use Rattle.xbar_jobs.specs.Jobs.{first_conn}
use Rattle.xbar_moves.specs.Exchange.{Exchange, Work, is_idle, on_job}
use Rattle.xbar_moves.specs.Moves as moves
use Rattle.xbar_moves.specs.Moves.{after_step, event_at_step, restarted_work}
use Rattle.xbar_moves.specs.declared.event.Event.{Event}
use Rattle.xbar_moves.specs.declared.event.Event.TheVariants.{Idle, Finished}
use Rattle.xbar_fabric.specs.Histories.{IsReportedRecord}
use Rattle.xbar_fabric.specs.Views.{DeskView, AgreesWith, marker_of}

-- the desk's marker made its next step in an office that agreed with what the desk knew: the
-- desk's marker is now what it is in the office after the step, the desk has seen all records by
-- then, and this is the step's event
pub record MarkerHasStepped (before after : DeskView) (event : Event) : Type 0 where
  pub office : Exchange
  pub agrees : AgreesWith before office
  pub same : after ≡ record before { work = after.work; seen = after.seen }
  pub there : slice_get (after_step before.plan before.marker office).markers before.marker
      ≡ Some (marker_of after)
  pub seen_is : after.seen ≡ (after_step before.plan before.marker office).records
  pub event_is : event ≡ event_at_step before.plan before.marker office

-- an advance: an idle desk makes no step, any other makes its marker's next step; the desk has
-- seen what it had seen, and more; and a record is reported by a step after which nothing is left of
-- the job, and by no other
pub record MarkerHasAdvanced (before after : DeskView) (event : Event) : Type 0 where
  pub idle : is_idle before.work ≡ true → (after ≡ before) × (event ≡ Idle)
  pub stepped : is_idle before.work ≡ false → MarkerHasStepped before after event
  pub grown : Begins before.seen after.seen
  pub finished : (r : Record) → event ≡ Finished r →
      (is_idle after.work ≡ true) × IsReportedRecord before after r
  pub ended : is_idle before.work ≡ false → is_idle after.work ≡ true →
      (r : Record) × (event ≡ Finished r)

-- the answer to an advance: None if the desk was idle, else that of the marker's step in the
-- office in which it was made
pub record IsAnswered (before after : DeskView) (answer : Option Answer) : Type 0 where
  pub event : Event
  pub advanced : MarkerHasAdvanced before after event
  pub idle : is_idle before.work ≡ true → answer ≡ None
  pub answered : (goes_on : is_idle before.work ≡ false) →
      moves.IsAnswered before.plan before.marker (advanced.stepped goes_on).office.words
      before.work after.work answer

-- a number of advances of the desk, none of them while it is idle and none that asks for a
-- connector, between which other markers may move
abbrev pub MarkerHasRun : ℕ → DeskView → DeskView → Type 0
MarkerHasRun zero before after = after ≡ before
MarkerHasRun (suc count) before after =
    (between : DeskView) × (event : Event) × MarkerHasRun count before between
    × (is_idle between.work ≡ false) × (asked_by between.work ≡ None)
    × MarkerHasAdvanced between after event

-- a number of steps of the desk's marker, none of which asks for a connector, between which other
-- markers may move
abbrev pub MarkerHasMade : ℕ → DeskView → DeskView → Type 0
MarkerHasMade zero before after = after ≡ before
MarkerHasMade (suc count) before after =
    (between : DeskView) × (event : Event)
    × MarkerHasMade count before between × (asked_by between.work ≡ None)
    × MarkerHasStepped between after event

-- a marker at the very beginning of its job
abbrev pub at_beginning : Work → Work
at_beginning work =
    on_job worlds.Idle (λ number a. Does number (begin_with (first_conn a.job) a.job)) work

-- the desk gave back: its marker's job was restarted, and the marker made at most one step for
-- each connector that it held and one for its request; it is at the very beginning of its job now
pub record MarkerHasGivenBack (before after : DeskView) : Type 0 where
  pub count : ℕ
  pub few : count ≤ on_job 0 (λ number a. 1 + length a.held) before.work
  pub made : MarkerHasMade count (record before { work = restarted_work before.plan before.work }) after
  pub begins : after.work ≡ at_beginning before.work
