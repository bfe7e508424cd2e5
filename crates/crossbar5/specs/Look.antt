-- Looks: the office that rows lead to, as it stands.
use Rattle.std.specs.Prelude.{◌≡◌, ◌⊎◌, ℕ, ◌-◌, Option, Some, List, [], ◌∷◌, drop, length, slice_get, take, true}
use Rattle.csv.specs.Reading.{default_config, records as csv_records, strip_bom}
use Rattle.xbar_plan.specs.Tables.{Tables}
use Rattle.xbar_moves.specs.Exchange.{Exchange, Marker, fresh_exchange, is_idle}
use Rattle.xbar_moves.specs.declared.kinds.Kind.{Kind}
use Rattle.xbar_office.specs.Legal.{after}
use Rattle.xbar_office_drawing.specs.Drawing.{office_drawing}
use Rattle.xbar_look.specs.Look.{look_object, look_words}
use Rattle.xbar_traffic.specs.Fault.{fault_line}
use Rattle.xbar_traffic.specs.Traffic.{IsTrafficOf}
use Rattle.xbar_traffic.specs.declared.fault.RowFault.{RowFault}
use Rattle.xbar_traffic.specs.declared.row.Mode.TheVariants.{Replay}
use Rattle.xbar_traffic.specs.declared.row.Row.{Row}
use Rattle.xbar_walk.specs.Items.{walk_text_of}
use Rattle.xbar_walk.specs.declared.detail.Detail.TheVariants.{JsonList}
use Rattle.crossbar5.specs.declared.written.Status.{Status}
use Rattle.crossbar5.specs.Rows.{after_rows}
use Rattle.crossbar5.specs.Run.{Leaves, Outcome, RefusesTraffic, outcome_status, reached}
use Rattle.crossbar5.specs.Walk.{begun_at, walk_after_rows}
use Rattle.crossbar5_task.specs.declared.task.LookForm.{LookForm}
use Rattle.crossbar5_task.specs.declared.task.LookForm.TheVariants.{Words, Json, Svg}

-- all markers are idle: nothing is left for a settling to do
abbrev pub AreIdle : Exchange → Type 0
AreIdle e = (k : ℕ) (m : Marker) → slice_get e.markers k ≡ Some m → is_idle m.work ≡ true

-- a list of values, each after a comma
abbrev pub BeginsWithComma : List ℕ → Type 0
BeginsWithComma list = (list ≡ []) ⊎ ((rest : List ℕ) × (list ≡ 44 ∷ rest))

-- the events of the last of these rows, in the office after those before it: objects with commas
-- between them, with the steps numbered from 1
abbrev pub last_events : Tables → Exchange → List Row → List ℕ
last_events plan e rows =
    let before = length rows - 1 in
    let w = begun_at JsonList plan (after_rows plan (take before rows) e) in
    drop 1 (walk_text_of JsonList (walk_after_rows (drop before rows) w).items)

-- an office as it stands, under its plan, with these events
abbrev pub shown : LookForm → Tables → Exchange → List ℕ → List ℕ
shown Words plan e events = look_words e
shown Json plan e events = look_object (record { plan = plan; exchange = e }) events
shown Svg plan e events = office_drawing plan (after plan e.records) e.records

-- what is written of an outcome: the fault line, or the office that is left, as it stands
abbrev pub look_text : LookForm → Tables → List ℕ → Outcome → List ℕ
look_text form plan events (RefusesTraffic fault) = fault_line fault
look_text form plan events (Leaves e) = shown form plan e events

-- the text and the status are those of what rows lead to, with the events of the last one
pub record IsLookOf (form : LookForm) (plan : Tables) (events : List ℕ) (came : Outcome)
    (text : List ℕ) (status : Status) : Type 0 where
  pub text_is : text ≡ look_text form plan events came
  pub status_is : status ≡ outcome_status came

-- under a plan's tables, the text and the status are those of a look: the traffic is refused if
-- its replay is, and otherwise the office is shown that a replay settles next
pub record IsLookUnder (form : LookForm) (plan : Tables) (kinds : List Kind) (traffic text : List ℕ)
    (status : Status) : Type 0 where
  pub rows : List Row
  pub fault : Option RowFault
  pub read : IsTrafficOf Replay (csv_records default_config (strip_bom traffic)) rows fault
  pub shown : IsLookOf form plan (last_events plan (fresh_exchange kinds) rows)
      (reached plan kinds rows fault) text status
