use Rattle.std.specs.Prelude.{◌≡◌, ℕ, ◌<◌, ◌^◌, Option, Some, None, List, [], length, slice_get}
use Rattle.turns.specs.Among.{IsIn}
use Rattle.xbar_plan.specs.Tables.{Tables}
use Rattle.xbar_office.specs.Legal.{AreJobs, HaveReplies, IsLegal, jobs_of}
use Rattle.xbar_office.specs.declared.job.Job.{Job}
use Rattle.xbar_office.specs.declared.reply.Record.{Record}
use Rattle.xbar_moves.specs.Exchange.{Work, on_job}
use Rattle.xbar_moves.specs.Moves.{own_record}
use Rattle.xbar_fabric.specs.Views.{DeskView, mine}

-- a history: records of jobs of the office, with the replies of the one-marker office, which does
-- them whole, one after another; if there are fewer than 2^64 of them, they are legal
pub record IsHistory (plan : Tables) (records : List Record) : Type 0 where
  pub jobs : AreJobs (jobs_of records)
  pub replies : HaveReplies plan [] records
  pub legal : length records < 2 ^ 64 → IsLegal plan records

-- the record that a desk reports when its job ends: of its marker, and of the job that was
-- assigned to it, under its number; it is among the desk's own records, and at the index of its
-- turn
pub record IsReportedRecord (before after : DeskView) (r : Record) : Type 0 where
  pub marker : r.marker ≡ before.marker
  pub job : on_job ⊥ (λ number a. (r.job_no ≡ number) × (r.job ≡ a.job)) before.work
  pub within : IsIn r (mine after)
  pub at_place : length after.seen < 2 ^ 64 → slice_get after.seen r.turn ≡ Some r

-- the job that a marker is at, with its number
abbrev pub job_at : Work → Option (ℕ × Job)
job_at work = on_job None (λ number a. Some (number, a.job)) work

-- the record of a desk's job, once it has taken its turn
abbrev pub turned_of : DeskView → List Record
turned_of desk = on_job [] (own_record desk.marker) desk.work
