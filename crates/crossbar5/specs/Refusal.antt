-- Diagnostics, and the refusals that they explain.
use Rattle.std.specs.Prelude.{◌≡◌, ◌++◌, ℕ, Bool, true, false, List, Option, None, Some, Result, Ok, Err, codes, decimal}
use Rattle.std.specs.declared.alloc.AllocError.{AllocError}
use Rattle.xbar_plan_text.specs.Refusal.{fault_of}
use Rattle.xbar_traffic.specs.Fault.{fault_line}
use Rattle.crossbar5.specs.PlanRefusal.{plan_fault_line}
use Rattle.crossbar5.specs.declared.written.Diagnostic.{Diagnostic}
use Rattle.crossbar5.specs.declared.written.Diagnostic.TheVariants.{Plan, Report, Traffic}
use Rattle.crossbar5.specs.declared.written.Status.{Status}
use Rattle.crossbar5.specs.declared.written.Status.TheVariants.{PlanRefused, ReportRefused, TrafficRefused}

-- the line that reports that a text of records is refused at this line
abbrev pub report_fault_line : ℕ → List ℕ
report_fault_line line = codes "FAULT,U1," ++ (decimal line ++ codes "\n")

-- the line that reports the fault of a diagnostic
abbrev pub line_of : Diagnostic → List ℕ
line_of (Plan diagnostic) = plan_fault_line (fault_of diagnostic.refusal)
line_of (Traffic diagnostic) = fault_line diagnostic.fault
line_of (Report diagnostic) = report_fault_line diagnostic.line

-- the status of a run that is refused for the fault of a diagnostic
abbrev pub status_of : Diagnostic → Status
status_of (Plan diagnostic) = PlanRefused
status_of (Traffic diagnostic) = TrafficRefused
status_of (Report diagnostic) = ReportRefused

-- whether this is the status of a run whose plan, traffic or text of records is refused
abbrev pub refuses : Status → Bool
refuses PlanRefused = true
refuses TrafficRefused = true
refuses ReportRefused = true
refuses _ = false

-- a diagnostic; none; or, as an error, that memory for a diagnostic ran out
abbrev pub Explanation : Type 0
Explanation = Result (Option Diagnostic) AllocError

-- there is a diagnostic exactly if the run is refused, and the status is that of a run refused for
-- its fault; for a refused run, memory for it may have run out
abbrev pub HasItsStatus : Explanation → Status → Type 0
HasItsStatus explanation status =
    ((diagnostic : Diagnostic) → explanation ≡ Ok (Some diagnostic) → status ≡ status_of diagnostic)
    × (explanation ≡ Ok None → refuses status ≡ false)
    × ((error : AllocError) → explanation ≡ Err error → refuses status ≡ true)

-- if there is a diagnostic, the text is the line of its fault
abbrev pub HasItsLine : Explanation → List ℕ → Type 0
HasItsLine explanation text =
    (diagnostic : Diagnostic) → explanation ≡ Ok (Some diagnostic) → text ≡ line_of diagnostic

-- there is a diagnostic exactly if the run is refused, unless memory for it ran out; and the text
-- and the status report that its fault refused the run
abbrev pub ReportsFaultOf : Explanation → List ℕ → Status → Type 0
ReportsFaultOf explanation text status =
    HasItsLine explanation text × HasItsStatus explanation status
