use Rattle.std.specs.Prelude.{◌≡◌, ℕ, ◌<◌, true, IfSome, List, All, length, slice_get, ⊤}
use Rattle.turns.specs.Among.{IsIn}
use Rattle.xbar_equip.specs.Conn.{IsConn}
use Rattle.xbar_equip.specs.declared.conn.Conn.{Conn}
use Rattle.xbar_plan.specs.Tables.{Tables}
use Rattle.xbar_office.specs.Legal.{IsLegal, after}
use Rattle.xbar_office.specs.declared.reply.Record.{Record}
use Rattle.xbar_jobs.specs.Office.{ShowsOffice}
use Rattle.xbar_moves.specs.Kinds.{takes}
use Rattle.xbar_moves.specs.declared.kinds.Kind.{Kind}
use Rattle.xbar_fabric.specs.Meetings.{AreWordsAfter, IsUnused}
use Rattle.xbar_fabric.specs.Views.{own}
use Rattle.xbar_markers.specs.Calls.{AreServed}
use Rattle.xbar_markers.specs.DesksByKind.{kinds_of}
use Rattle.xbar_markers.specs.declared.call.Call.{Call}
use Rattle.xbar_markers.specs.declared.calling.Outcome.{Outcome}

-- the records are of markers of these kinds, and each marker's are of jobs that its kind takes
pub record AreTaken (kinds : List Kind) (records : List Record) : Type 0 where
  pub theirs : (r : Record) → IsIn r records → r.marker < length kinds
  pub each : (k : ℕ) → IfSome (slice_get kinds k)
      (λ kind. All (λ r. takes kind r.job ≡ true) (own k records))

-- the outcome of calls done by this many markers of each kind: a legal history of exactly these
-- calls, the one-marker office after it, and words that show it, with 0 as each connector's word
pub record IsOutcome (plan : Tables) (dialling completing : ℕ) (calls : List Call) (o : Outcome)
    : Type 0 where
  pub legal : IsLegal plan o.records.items
  pub served : AreServed ⊤ calls o.records.items
  pub taken : AreTaken (kinds_of dialling completing) o.records.items
  pub office : o.office ≡ record { plan = plan; paths = after plan o.records.items }
  pub words : AreWordsAfter plan o.records.items o.words.items
  pub unused : (conn : Conn) → IsConn conn → IsUnused o.words.items conn
  pub shows : ShowsOffice plan o.words.items (after plan o.records.items)
