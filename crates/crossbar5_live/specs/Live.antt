-- The outcome of live traffic.
use Rattle.std.specs.Prelude.{◌≡◌, ℕ, ◌+◌, ◌*◌, List, [], ◌∷◌, Option, Some, None, flat_map, length, ⊤}
use Rattle.csv.specs.Reading.{default_config, records as csv_records, strip_bom}
use Rattle.xbar_plan.specs.Tables.{Tables}
use Rattle.xbar_office.specs.Legal.{IsLegal, after}
use Rattle.xbar_office.specs.declared.reply.Record.{Record}
use Rattle.xbar_traffic.specs.Traffic.{IsTrafficOf}
use Rattle.xbar_traffic.specs.declared.fault.RowFault.{RowFault}
use Rattle.xbar_traffic.specs.declared.row.Mode.TheVariants.{Live}
use Rattle.xbar_traffic.specs.declared.row.Row.{Row}
use Rattle.xbar_traffic.specs.declared.row.Row.TheVariants as row
use Rattle.xbar_report.specs.Text.{report_text}
use Rattle.xbar_markers.specs.Calls.{AreServed}
use Rattle.xbar_markers.specs.Outcomes.{AreTaken}
use Rattle.xbar_markers.specs.DesksByKind.{kinds_of}
use Rattle.xbar_markers.specs.declared.call.Call.{Call}
use Rattle.crossbar5.specs.PlanRefusal.{IsAnswerOf, PlanRead}
use Rattle.crossbar5.specs.TrafficRefusal.{IsTrafficRefusal}
use Rattle.crossbar5.specs.declared.written.Status.{Status}
use Rattle.crossbar5.specs.declared.written.Status.TheVariants.{Fine}

-- the calls that a row asks for: one, or none
abbrev pub calls_in : Row → List Call
calls_in (row.Call call_no line dialled release) =
    record { call_no = call_no; line = line; digits = dialled; release = release } ∷ []
calls_in _ = []

-- the calls that rows ask for
abbrev pub calls_of : List Row → List Call
calls_of rows = flat_map calls_in rows

-- the text reports calls done by this many markers of each kind: the records of one legal history
-- of exactly these calls, and the numbers of paths and closed crosspoints after it
pub record IsTextOfCalls (plan : Tables) (dialling completing : ℕ) (calls : List Call)
    (text : List ℕ) : Type 0 where
  pub records : List Record
  pub legal : IsLegal plan records
  pub served : AreServed ⊤ calls records
  pub taken : AreTaken (kinds_of dialling completing) records
  pub text_is : text
      ≡ report_text records (length (after plan records)) (4 * length (after plan records))

-- the traffic is refused if the row after these has a fault; otherwise their calls are done
abbrev pub IsLiveOf : Tables → ℕ → ℕ → List Row → Option RowFault → List ℕ → Status → Type 0
IsLiveOf plan dialling completing rows (Some fault) text status =
    IsTrafficRefusal (record { row = length rows + 1; fault = fault }) text status
IsLiveOf plan dialling completing rows None text status =
    IsTextOfCalls plan dialling completing (calls_of rows) text × (status ≡ Fine)

-- under a plan's tables, the text and the status are those of the rows of live traffic
pub record IsLiveUnder (plan : Tables) (dialling completing : ℕ) (traffic text : List ℕ)
    (status : Status) : Type 0 where
  pub rows : List Row
  pub fault : Option RowFault
  pub read : IsTrafficOf Live (csv_records default_config (strip_bom traffic)) rows fault
  pub written : IsLiveOf plan dialling completing rows fault text status

-- the text and the status are those of live traffic, with a plan as it was read and this many
-- markers of each kind
abbrev pub IsLive : PlanRead → ℕ → ℕ → List ℕ → List ℕ → Status → Type 0
IsLive plan dialling completing traffic text status =
    IsAnswerOf (λ tables. IsLiveUnder tables dialling completing) plan traffic text status
