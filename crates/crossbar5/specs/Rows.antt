use Rattle.std.specs.Prelude.{◌≡◌, Option, Some, None, List, [], ◌∷◌, slice_get}
use Rattle.xbar_plan.specs.Tables.{Tables}
use Rattle.xbar_moves.specs.Exchange.{Exchange, Marker}
use Rattle.xbar_moves.specs.Moves.{assigned, refusal, steps}
use Rattle.xbar_moves.specs.declared.kinds.AssignFault.{AssignFault}
use Rattle.xbar_moves.specs.declared.kinds.AssignFault.TheVariants as assign
use Rattle.xbar_traffic.specs.declared.fault.MarkerFault.{MarkerFault}
use Rattle.xbar_traffic.specs.declared.fault.MarkerFault.TheVariants.{NoMarker, NotIdle, WrongKind}
use Rattle.xbar_traffic.specs.declared.row.Row.{Row}
use Rattle.xbar_traffic.specs.declared.row.Row.TheVariants.{Assign, Steps, Call}

-- the fault of a row whose job can't be assigned; running out of memory is no fault of a row
abbrev pub row_fault_of : AssignFault → Option MarkerFault
row_fault_of assign.NoMarker = Some NoMarker
row_fault_of assign.NotIdle = Some NotIdle
row_fault_of assign.WrongKind = Some WrongKind
row_fault_of assign.Memory = None

-- the fault of a row, by what refuses its assignment, if anything
abbrev pub assignment_fault : Option AssignFault → Option MarkerFault
assignment_fault None = None
assignment_fault (Some fault) = row_fault_of fault

-- the fault of a row if its marker doesn't exist
abbrev pub no_marker_fault : Option Marker → Option MarkerFault
no_marker_fault None = Some NoMarker
no_marker_fault (Some m) = None

-- why a marker can't do what a row asks; a call asks nothing of a marker
abbrev pub row_fault : Exchange → Row → Option MarkerFault
row_fault e (Assign marker job_no job) = assignment_fault (refusal e marker job)
row_fault e (Steps marker count) = no_marker_fault (slice_get e.markers marker)
row_fault e (Call call_no line dialled release) = None

-- the row assigns a job, and nothing refuses it
abbrev pub IsUnrefusedJob : Exchange → Row → Type 0
IsUnrefusedJob e (Assign marker job_no job) = refusal e marker job ≡ None
IsUnrefusedJob e (Steps marker count) = ⊥
IsUnrefusedJob e (Call call_no line dialled release) = ⊥

-- the office after a row: its job is assigned, or its steps are made
abbrev pub done : Tables → Exchange → Row → Exchange
done plan e (Assign marker job_no job) = assigned marker job_no job e
done plan e (Steps marker count) = steps plan marker count e
done plan e (Call call_no line dialled release) = e

-- the office after rows that are done one after another
unfoldable pub after_rows : Tables → List Row → Exchange → Exchange
after_rows plan [] e = e
after_rows plan (row ∷ rows) e = after_rows plan rows (done plan e row)
