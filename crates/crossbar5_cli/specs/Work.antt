-- What is done of work.
use Rattle.std.specs.Prelude.{◌≡◌, [], ℕ, Bool, List, Option, IfSome, false, if◌then◌else◌, true}
use Rattle.std.specs.Io.KnownBytes.{Appends}
use Rattle.crossbar5.specs.PlanRefusal.{PlanRead}
use Rattle.crossbar5.specs.Refusal.{Explanation, ReportsFaultOf}
use Rattle.crossbar5.specs.Tasks.{IsDone}
use Rattle.crossbar5.specs.declared.written.Status.{Status}
use Rattle.crossbar5.specs.declared.written.Status.TheVariants.{Fine}
use Rattle.crossbar5_task.specs.declared.task.Task.TheVariants.{Draw}
use Rattle.crossbar5_live.specs.Live.{IsLive}
use Rattle.crossbar5_cli.specs.declared.work.CheckedWork.{CheckedWork}
use Rattle.crossbar5_cli.specs.declared.work.CheckedWork.TheVariants.{Live, Task}

-- with a plan as it was read and this input, the work has this text and this status
abbrev pub IsWorkDone : CheckedWork → PlanRead → List ℕ → List ℕ → Status → Type 0
IsWorkDone (Task task kinds) plan input text status = IsDone task kinds plan input text status
IsWorkDone (Live markers) plan input text status =
    IsLive plan markers.dialling markers.completing input text status

-- whether the text of work with this status is its output. The text of a drawing that isn't made
-- says why
abbrev pub is_output : CheckedWork → Status → Bool
is_output (Task (Draw form) kinds) Fine = true
is_output (Task (Draw form) kinds) _ = false
is_output _ status = true

-- the part of the work's text that is written
abbrev pub output_of : CheckedWork → Status → List ℕ → List ℕ
output_of work status text = if is_output work status then text else []

-- the part of the work's text that is returned, as the reasons why nothing is drawn
abbrev pub reasons_of : CheckedWork → Status → List ℕ → List ℕ
reasons_of work status text = if is_output work status then [] else text

-- the work, with a plan as it was read and the input that was left to read, has this status and these
-- reasons why nothing is drawn, and its output is appended to what was written before
pub record IsAnswer (work : CheckedWork) (plan : PlanRead) (unread before after : Option (List ℕ))
    (status : Status) (reasons : List ℕ) : Type 0 where
  pub input : List ℕ
  pub text : List ℕ
  pub all_read : IfSome unread (λ all. input ≡ all)
  pub done : IsWorkDone work plan input text status
  pub written : Appends before after (output_of work status text)
  pub reasons_are : reasons ≡ reasons_of work status text

-- the answer has a diagnostic exactly if it is a refusal, unless memory for it ran out: of the fault
-- that its text reports
pub record IsDiagnosticOf (work : CheckedWork) (before after : Option (List ℕ)) (status : Status)
    (reasons : List ℕ) (diagnostic : Explanation) : Type 0 where
  pub text : List ℕ
  pub written : Appends before after (output_of work status text)
  pub reasons_are : reasons ≡ reasons_of work status text
  pub tells : ReportsFaultOf diagnostic text status
