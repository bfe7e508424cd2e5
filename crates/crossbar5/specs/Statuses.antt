use Rattle.std.specs.Prelude.{ℕ}
use Rattle.crossbar5.specs.declared.written.Status.{Status}
use Rattle.crossbar5.specs.declared.written.Status.TheVariants.{Fine, FoundWrong, PlanRefused, ReportRefused, TrafficRefused}

-- the number of a status: the program's exit status, and the status of the library's answer
abbrev pub status_number : Status → ℕ
status_number Fine = 0
status_number PlanRefused = 3
status_number TrafficRefused = 4
status_number ReportRefused = 4
status_number FoundWrong = 7
