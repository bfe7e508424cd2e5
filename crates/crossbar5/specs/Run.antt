use Rattle.std.specs.Prelude.{◌≡◌, ℕ, ◌+◌, ◌*◌, true, length, Option, Some, None, Result, Ok, Err, List, [], ◌∷◌, slice_get, ⊤}
use Rattle.csv.specs.Reading.{default_config, records as csv_records, strip_bom}
use Rattle.xbar_equip.specs.Word.{TurnWord}
use Rattle.xbar_plan.specs.Tables.{Tables}
use Rattle.xbar_match.specs.Switches.{word_of}
use Rattle.xbar_match.specs.Counts.{closed_line_fields, closed_switch_fields}
use Rattle.xbar_office.specs.Legal.{IsLegal, after}
use Rattle.xbar_jobs.specs.Office.{ShowsOffice}
use Rattle.xbar_moves.specs.Exchange.{Exchange, Marker, OfPlan, is_idle, fresh_exchange}
use Rattle.xbar_moves.specs.Settling.{settled}
use Rattle.xbar_moves.specs.declared.kinds.Kind.{Kind}
use Rattle.xbar_traffic.specs.Fault.{fault_line}
use Rattle.xbar_traffic.specs.Traffic.{IsTrafficOf}
use Rattle.xbar_traffic.specs.declared.fault.MarkerFault.{MarkerFault}
use Rattle.xbar_traffic.specs.declared.fault.RowFault.{RowFault}
use Rattle.xbar_traffic.specs.declared.fault.RowFault.TheVariants.{Marker as AtMarker}
use Rattle.xbar_traffic.specs.declared.fault.TrafficFault.{TrafficFault}
use Rattle.xbar_traffic.specs.declared.row.Mode.TheVariants.{Replay}
use Rattle.xbar_traffic.specs.declared.row.Row.{Row}
use Rattle.xbar_report.specs.Text.{report_text}
use Rattle.crossbar5.specs.PlanRefusal.{IsAnswerOf, PlanRead}
use Rattle.crossbar5.specs.declared.written.Status.{Status}
use Rattle.crossbar5.specs.declared.written.Status.TheVariants.{Fine, TrafficRefused}
use Rattle.crossbar5.specs.Rows.{done, row_fault}

-- the outcome of traffic: it is refused, or it leaves an office
pub data Outcome : Type 0 where
  RefusesTraffic : TrafficFault → Outcome
  Leaves : Exchange → Outcome

-- after the last good row: the traffic is refused if the row after it has a fault; otherwise it
-- leaves the office as it stands
abbrev pub at_end : Exchange → ℕ → Option RowFault → Outcome
at_end e row (Some fault) = RefusesTraffic (record { row = row; fault = fault })
at_end e row None = Leaves e

-- a row that its marker can't do refuses the traffic; otherwise the later rows decide
abbrev pub judged : ℕ → Option MarkerFault → Outcome → Outcome
judged row None later = later
judged row (Some why) later = RefusesTraffic (record { row = row; fault = AtMarker why })

-- the outcome of rows that are judged and done one after another, numbered from this number on
unfoldable pub outcome_from : Tables → Exchange → ℕ → List Row → Option RowFault → Outcome
outcome_from plan e number [] fault = at_end e number fault
outcome_from plan e number (row ∷ rows) fault =
    judged number (row_fault e row) (outcome_from plan (done plan e row) (number + 1) rows fault)

-- the outcome of rows by the first fault among them, or by the office after them
abbrev pub outcome_by : Option TrafficFault → Exchange → Outcome
outcome_by None e = Leaves e
outcome_by (Some fault) e = RefusesTraffic fault

-- the outcome by the office that is left, or by the fault that refuses the traffic
abbrev pub outcome_of : Result OfPlan TrafficFault → Outcome
outcome_of (Ok office) = Leaves office.exchange
outcome_of (Err fault) = RefusesTraffic fault

-- what rows lead to in a new office with markers of these kinds, and the fault of the row after
-- them, if it has one
abbrev pub reached : Tables → List Kind → List Row → Option RowFault → Outcome
reached plan kinds rows fault = outcome_from plan (fresh_exchange kinds) 1 rows fault

-- the office that is left settles
abbrev pub settling : Tables → Outcome → Outcome
settling plan (RefusesTraffic fault) = RefusesTraffic fault
settling plan (Leaves e) = Leaves (settled plan e)

-- the outcome of a replay: after the last row the office settles
abbrev pub outcome : Tables → List Kind → List Row → Option RowFault → Outcome
outcome plan kinds rows fault = settling plan (reached plan kinds rows fault)

-- what is written for an outcome
abbrev pub outcome_text : Outcome → List ℕ
outcome_text (RefusesTraffic fault) = fault_line fault
outcome_text (Leaves e) =
    report_text e.records (closed_line_fields e.words) (closed_switch_fields e.words)

-- the status of a run with this outcome
abbrev pub outcome_status : Outcome → Status
outcome_status (RefusesTraffic fault) = TrafficRefused
outcome_status (Leaves e) = Fine

-- the text and the status are those of this outcome
pub record IsWrittenOf (came : Outcome) (text : List ℕ) (status : Status) : Type 0 where
  pub text_is : text ≡ outcome_text came
  pub status_is : status ≡ outcome_status came

-- all markers are idle; the records are those of the one-marker office, job by job in turn order;
-- and the words show the paths after them: the turn word counts the records, the closed fields
-- count the paths
pub record IsOneHistory (plan : Tables) (e : Exchange) : Type 0 where
  pub idle : (k : ℕ) (m : Marker) → slice_get e.markers k ≡ Some m → is_idle m.work ≡ true
  pub legal : IsLegal plan e.records
  pub shows : ShowsOffice plan e.words (after plan e.records)
  pub turns : word_of e.words TurnWord ≡ length e.records
  pub paths : closed_line_fields e.words ≡ length (after plan e.records)
  pub crosspoints : closed_switch_fields e.words ≡ 4 * length (after plan e.records)

-- an office that is left has one history
abbrev pub LeavesOneHistory : Tables → Outcome → Type 0
LeavesOneHistory plan (RefusesTraffic fault) = ⊤
LeavesOneHistory plan (Leaves e) = IsOneHistory plan e

-- under a plan's tables, the text and the status are those of the outcome of the traffic's rows,
-- and the office that they leave has one history
pub record IsReplayUnder (plan : Tables) (kinds : List Kind) (traffic text : List ℕ)
    (status : Status) : Type 0 where
  pub rows : List Row
  pub fault : Option RowFault
  pub read : IsTrafficOf Replay (csv_records default_config (strip_bom traffic)) rows fault
  pub history : LeavesOneHistory plan (outcome plan kinds rows fault)
  pub written : IsWrittenOf (outcome plan kinds rows fault) text status

-- the text and the status are those of a replay of traffic, with a plan as it was read and markers
-- of these kinds
abbrev pub IsReplay : PlanRead → List Kind → List ℕ → List ℕ → Status → Type 0
IsReplay plan kinds traffic text status =
    IsAnswerOf (λ tables. IsReplayUnder tables kinds) plan traffic text status
