use Rattle.std.specs.Prelude.{ℕ, List, Option, Some, None, Result, Ok, Err, codes, ⊤}
use Rattle.crossbar5.specs.Statuses.{status_number}
use Rattle.crossbar5_cli.specs.declared.work.Response.{Response}
use Rattle.crossbar5.specs.declared.engine_fault.EngineFault.{EngineFault}
use Rattle.crossbar5.specs.declared.engine_fault.EngineFault.TheVariants.{Memory, Device, Long}
use Rattle.crossbar5_cli.specs.declared.ended.Ending.{Ending}
use Rattle.crossbar5_cli.specs.declared.ended.Ending.TheVariants.{Answered, Printed, Refused, NotText, MarkersRefused, Failed}

-- how a run of the engine ends
abbrev pub ending_of_run : Result Response EngineFault → Ending
ending_of_run (Ok answer) = Answered answer.status
ending_of_run (Err fault) = Failed fault

-- the ending of a run of the engine: it answered, or something failed
abbrev pub IsOfRun : Ending → Type 0
IsOfRun (Answered status) = ⊤
IsOfRun (Failed fault) = ⊤
IsOfRun _ = ⊥

-- the exit status of each ending
abbrev pub exit_of : Ending → ℕ
exit_of (Answered status) = status_number status
exit_of Printed = 0
exit_of Refused = 2
exit_of NotText = 2
exit_of MarkersRefused = 2
exit_of (Failed Long) = 4
exit_of (Failed Memory) = 5
exit_of (Failed Device) = 6

-- the line that the program itself writes on standard error. For the other endings, the engine or
-- clap has the text
abbrev pub line_of : Ending → Option (List ℕ)
line_of (Answered _) = None
line_of Printed = None
line_of Refused = None
line_of NotText = Some (codes "error: a word of the command line is not UTF-8 text")
line_of MarkersRefused = Some (codes "FAULT,MARKERS")
line_of (Failed Long) = Some (codes "FAULT,LONG")
line_of (Failed Memory) = Some (codes "FAULT,MEMORY")
line_of (Failed Device) = Some (codes "FAULT,DEVICE")
