-- the records that desks report of their jobs
use Rattle.std.specs.Prelude.{◌≡◌, List, [], ◌∷◌, ◌++◌, if◌then◌else◌}
use Rattle.desks.specs.Parts.{Begins}
use Rattle.xbar_office.specs.declared.reply.Record.{Record}
use Rattle.xbar_moves.specs.Exchange.{is_idle}
use Rattle.xbar_moves.specs.declared.event.Event.{Event}
use Rattle.xbar_moves.specs.declared.event.Event.TheVariants.{Idle, Moved, Refused, Preferred, Finished}
use Rattle.xbar_fabric.specs.Histories.{turned_of}
use Rattle.xbar_fabric.specs.Views.{DeskView, mine}

-- the record of a desk's job from its turn to the job's end: it is still to be reported
abbrev pub unreported : DeskView → List Record
unreported desk = if is_idle desk.work then [] else turned_of desk

-- the record of a desk's job, if the job has ended
abbrev pub ended : DeskView → List Record
ended desk = if is_idle desk.work then turned_of desk else []

-- the record that an advance reports by its event, if any
abbrev pub reported_by : Event → List Record
reported_by (Finished r) = r ∷ []
reported_by Idle = []
reported_by Moved = []
reported_by (Refused conn holder) = []
reported_by (Preferred other) = []

-- a desk worked for a while and reported these records. What it has now seen begins with what it
-- had seen before. If a log had all of its own records but the unreported one, then the log with
-- these records has all of them but the one that is unreported now.
pub record MarkerHasWorked (before after : DeskView) (reported : List Record) : Type 0 where
  pub begins : Begins before.seen after.seen
  pub mine_are : (log : List Record) → mine before ≡ log ++ unreported before
      → mine after ≡ log ++ (reported ++ unreported after)
