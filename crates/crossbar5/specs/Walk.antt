-- Walks: replays of traffic, described step by step.
use Rattle.std.specs.Prelude.{◌≡◌, ℕ, Option, List, [], ◌∷◌, ◌++◌, ⊤}
use Rattle.csv.specs.Reading.{default_config, records as csv_records, strip_bom}
use Rattle.xbar_plan.specs.Tables.{Tables}
use Rattle.xbar_moves.specs.Exchange.{Exchange, fresh_exchange}
use Rattle.xbar_moves.specs.Moves.{assigned}
use Rattle.xbar_moves.specs.declared.kinds.Kind.{Kind}
use Rattle.xbar_traffic.specs.Fault.{fault_line}
use Rattle.xbar_traffic.specs.Traffic.{IsTrafficOf}
use Rattle.xbar_traffic.specs.declared.fault.RowFault.{RowFault}
use Rattle.xbar_traffic.specs.declared.row.Mode.TheVariants.{Replay}
use Rattle.xbar_traffic.specs.declared.row.Row.{Row}
use Rattle.xbar_traffic.specs.declared.row.Row.TheVariants.{Assign, Steps, Call}
use Rattle.xbar_walk.specs.Items.{assignment_item, walk_text_of}
use Rattle.xbar_walk.specs.Walks.{Walk, walk_of_settling, walk_of_steps}
use Rattle.xbar_walk.specs.declared.detail.Detail.{Detail}
use Rattle.xbar_walk.specs.declared.detail.Detail.TheVariants as detail
use Rattle.crossbar5_task.specs.declared.task.WalkForm.{WalkForm}
use Rattle.crossbar5_task.specs.declared.task.WalkForm.TheVariants as form
use Rattle.crossbar5.specs.declared.written.Status.{Status}
use Rattle.crossbar5.specs.Run.{Leaves, Outcome, RefusesTraffic, outcome, outcome_status}

-- how a walk of this form describes events
abbrev pub detail_of : WalkForm → Detail
detail_of form.Each = detail.Each
detail_of form.Short = detail.Short
detail_of form.Json = detail.JsonLines

-- a walk that begins in this office, of which nothing is described yet
abbrev pub begun_at : Detail → Tables → Exchange → Walk
begun_at detail plan e = record {
  detail = detail;
  office = record { plan = plan; exchange = e };
  number = 0;
  items = [];
}

-- a walk that begins in a new office with markers of these kinds
abbrev pub opened : Detail → Tables → List Kind → Walk
opened detail plan kinds = begun_at detail plan (fresh_exchange kinds)

-- a row is done and described: an item for an assignment, or one for each step that is made
unfoldable pub walk_after_row : Row → Walk → Walk
walk_after_row (Assign marker job_no job) w = record w {
  office = record w.office { exchange = assigned marker job_no job w.office.exchange };
  items = w.items ++ assignment_item w.detail marker job_no job ∷ [];
}
walk_after_row (Steps marker count) w = walk_of_steps marker count w
walk_after_row (Call _ _ _ _) w = w

-- rows are done and described, one after another
unfoldable pub walk_after_rows : List Row → Walk → Walk
walk_after_rows [] w = w
walk_after_rows (row ∷ rows) w = walk_after_rows rows (walk_after_row row w)

-- the whole walk of rows of which none is refused: they are done, and the office settles
abbrev pub whole_walk : Detail → Tables → List Kind → List Row → Walk
whole_walk detail plan kinds rows =
    walk_of_settling (walk_after_rows rows (opened detail plan kinds))

-- the text of a walk whose replay has this outcome: the fault line, or the description
abbrev pub walk_text : Walk → Outcome → List ℕ
walk_text told (RefusesTraffic fault) = fault_line fault
walk_text told (Leaves e) = walk_text_of told.detail told.items

-- the described office is the one that the replay leaves
abbrev pub LeavesSameOffice : Walk → Outcome → Type 0
LeavesSameOffice told (RefusesTraffic fault) = ⊤
LeavesSameOffice told (Leaves e) = told.office.exchange ≡ e

-- the text and the status are those of this walk, whose replay has this outcome
pub record IsWalkResult (told : Walk) (came : Outcome) (text : List ℕ) (status : Status)
    : Type 0 where
  pub same : LeavesSameOffice told came
  pub text_is : text ≡ walk_text told came
  pub status_is : status ≡ outcome_status came

-- under a plan's tables, the text and the status are those of a walk: the traffic is refused if
-- its replay is, and otherwise each step of the replay is described
pub record IsWalkUnder (detail : Detail) (plan : Tables) (kinds : List Kind)
    (traffic text : List ℕ) (status : Status) : Type 0 where
  pub rows : List Row
  pub fault : Option RowFault
  pub read : IsTrafficOf Replay (csv_records default_config (strip_bom traffic)) rows fault
  pub told : IsWalkResult (whole_walk detail plan kinds rows) (outcome plan kinds rows fault) text
      status
