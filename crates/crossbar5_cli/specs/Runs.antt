-- How runs end that do what is asked for.
use Rattle.std.specs.Prelude.{◌≡◌, ◌⊎◌, ℕ, List, Option, None, Some, option_map, ⊤}
use Rattle.std.specs.Io.KnownBytes.{Keeps}
use Rattle.std.specs.String.{string_bytes}
use Rattle.std.specs.declared.io.Error.{Error}
use Rattle.crossbar5.specs.Faults.{ComesFirst}
use Rattle.crossbar5.specs.PlanRefusal.{IsRefusedPlan, PlanRead}
use Rattle.crossbar5.specs.Refusal.{Explanation}
use Rattle.crossbar5.specs.declared.engine_fault.EngineFault.{EngineFault}
use Rattle.crossbar5.specs.declared.engine_fault.EngineFault.TheVariants.{Device, Long, Memory}
use Rattle.crossbar5.specs.declared.written.Status.{Status}
use Rattle.crossbar5_command.specs.declared.command_line.Ask.{Ask}
use Rattle.crossbar5_command.specs.declared.command_line.Work.{Work}
use Rattle.crossbar5_cli.specs.CheckedWork.{IsCheckedOf, RefusesMarkers}
use Rattle.crossbar5_cli.specs.Sentences.{End, FileName, IsOnMarkers, sentence_on_fault}
use Rattle.crossbar5_cli.specs.Sentences.{sentence_on_parts, sentence_on_plan_file}
use Rattle.crossbar5_cli.specs.Named.{Files, IsPlanFault, IsPlanNamed, name_in}
use Rattle.crossbar5_cli.specs.declared.work.CheckedWork.{CheckedWork}
use Rattle.crossbar5_cli.specs.declared.ended.Ending.{Ending}
use Rattle.crossbar5_cli.specs.declared.ended.Ending.TheVariants.{Answered, Failed, MarkersRefused}
use Rattle.crossbar5_cli.specs.declared.sentence.Sentence.{Sentence}
use Rattle.crossbar5_cli.specs.Work.{IsAnswer, IsDiagnosticOf}

-- the input and the output of a run, before it and after it
pub record Streams : Type 1 where
  -- what was left to read before, if that is known
  pub unread : Option (List ℕ)
  -- the input is as it was, so nothing was read
  pub IsUntouched : Type 0
  -- the input was read to its end
  pub IsReadToEnd : Type 0
  -- the number of times that reading failed
  pub failures : ℕ
  -- so many reads gave bytes that no more are allowed
  pub HasTooManyReads : Type 0
  -- what the output is known to contain before and after
  pub before : Option (List ℕ)
  pub after : Option (List ℕ)
  -- the output is as it was
  pub IsUnwritten : Type 0
  -- a read, a write or a flush failed
  pub HasFailure : Type 0
  -- none failed
  pub HasNoFailure : Type 0

-- the engine answered the work with this status, with the plan of this file. The input was read to
-- its end, or not at all if the plan was refused
pub record IsAnsweredRun (work : CheckedWork) (file : FileName) (files : Files)
    (streams : Streams) (end : End) (status : Status) : Type 0 where
  pub plan : PlanRead
  pub named : IsPlanNamed files (name_in file) plan
  pub lines : List ℕ
  pub answer : IsAnswer work plan streams.unread streams.before streams.after status lines
  pub unread : IsRefusedPlan plan → streams.IsUntouched
  pub read : ¬ IsRefusedPlan plan → streams.IsReadToEnd
  pub reasons_are : end.reasons ≡ Some lines
  pub diagnostic : Explanation
  pub diagnostic_is : IsDiagnosticOf work streams.before streams.after status lines diagnostic
  pub sentence_is : end.sentence ≡ sentence_on_parts file diagnostic status lines

-- the cause of a fault of a run, which isn't the plan's file
abbrev pub IsCause : Streams → EngineFault → Type 0
IsCause streams Memory = ⊤
IsCause streams Device = streams.HasFailure
IsCause streams Long = streams.HasTooManyReads

-- the run failed, with this sentence
pub record FailsItself (streams : Streams) (sentence : Option Sentence) (fault : EngineFault)
    : Type 0 where
  pub cause : IsCause streams fault
  pub unwritten : ComesFirst fault → Keeps streams.before streams.after
  pub sentence_is : sentence ≡ sentence_on_fault fault streams.failures

-- the plan's file couldn't be opened or read, or memory ran out for its text. Then nothing was read
-- or written
pub record FailsAtPlan (file : FileName) (files : Files) (streams : Streams)
    (sentence : Option Sentence) (fault : EngineFault) : Type 0 where
  pub cause : IsPlanFault files (name_in file) fault
  pub unread : streams.IsUntouched
  pub unwritten : streams.IsUnwritten
  pub reason : Option Error
  pub sentence_is : sentence ≡ sentence_on_plan_file fault file reason

-- something failed: the run itself, or before it the plan's file
pub record IsFailedRun (file : FileName) (files : Files) (streams : Streams) (end : End)
    (fault : EngineFault) : Type 0 where
  pub reasons_are : end.reasons ≡ None
  pub why : FailsItself streams end.sentence fault
      ⊎ FailsAtPlan file files streams end.sentence fault

-- a run of the work has this end, by its ending
abbrev pub IsEndIn : CheckedWork → FileName → Files → Streams → End → Ending → Type 0
IsEndIn work file files streams end (Answered status) =
    IsAnsweredRun work file files streams end status
IsEndIn work file files streams end (Failed fault) =
    IsFailedRun file files streams end fault
IsEndIn work file files streams end _ = ⊥

-- a run of the work has this end
abbrev pub IsEndOf : CheckedWork → FileName → Files → Streams → End → Type 0
IsEndOf work file files streams end = IsEndIn work file files streams end end.ending

-- the work that is asked for is done, and ends like this
pub record IsEndOfAsked (ask : Ask) (files : Files) (streams : Streams) (end : End) : Type 0 where
  pub work : CheckedWork
  pub checked : IsCheckedOf ask.work work
  pub file : FileName
  pub file_is : name_in file ≡ option_map string_bytes ask.plan
  pub ends : IsEndOf work file files streams end

-- the markers that are asked for are refused, so nothing was read or written
pub record HasRefusedMarkers (work : Work) (streams : Streams) (end : End) : Type 0 where
  pub refused : RefusesMarkers work
  pub ending_is : end.ending ≡ MarkersRefused
  pub reasons_are : end.reasons ≡ None
  pub sentence_is : IsOnMarkers work end.sentence
  pub unread : streams.IsUntouched
  pub unwritten : streams.IsUnwritten

-- a run that does what is asked for ends like this
abbrev pub IsEndAsAsked : Ask → Files → Streams → End → Type 0
IsEndAsAsked ask files streams end =
    HasRefusedMarkers ask.work streams end ⊎ IsEndOfAsked ask files streams end
