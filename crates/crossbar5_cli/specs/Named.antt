-- The plan's file that a command line names.
use Rattle.std.specs.Prelude.{◌≡◌, ◌⊎◌, ℕ, List, Option, None, Some, IfSome, Result, Ok, Err, option_map, ⊤}
use Rattle.std.specs.IoError.{error_kind}
use Rattle.std.specs.declared.io.Error.{Error}
use Rattle.counted_io.specs.Counts.{HasFailed, ReadsUsedUp}
use Rattle.xbar_plan_text.specs.Document.{plan_of}
use Rattle.xbar_plan.specs.Example.{example}
use Rattle.crossbar5.specs.PlanRefusal.{PlanRead}
use Rattle.crossbar5.specs.declared.engine_fault.EngineFault.{EngineFault}
use Rattle.crossbar5.specs.declared.engine_fault.EngineFault.TheVariants.{Device, Long, Memory}
use Rattle.crossbar5_cli.specs.Causes.{opening_fault}
use Rattle.crossbar5_cli.specs.Sentences.{FileName}

-- what reading the file of this name to its end may give: its text, or a fault
abbrev pub Files : Type 1
Files = List ℕ → Result (List ℕ) EngineFault → Type 0

-- a file that was opened couldn't be read to its end for this fault: a read failed, or too many
-- reads gave bytes. The functions give a file's failures and reads so far
abbrev pub IsFileFault : {File : Type 0} → (File → ℕ) → (File → Option ℕ) → File → EngineFault
    → Type 0
IsFileFault {File} failures reads file Device =
    (after : File) × HasFailed (failures file) (failures after)
IsFileFault {File} failures reads file Long =
    (after : File) × ReadsUsedUp (reads file) (reads after)
IsFileFault failures reads file Memory = ⊤

-- the same for a file of this name, which couldn't be opened or read
abbrev pub IsFaultOf : {File : Type 0} → (List ℕ → Result File Error → Type 0) → (File → ℕ)
    → (File → Option ℕ) → List ℕ → EngineFault → Type 0
IsFaultOf {File} Opens failures reads name fault =
    ((error : Error) × Opens name (Err error) × (fault ≡ opening_fault (error_kind error)))
    ⊎ ((file : File) × Opens name (Ok file) × IsFileFault failures reads file fault)

-- what reading may give, by what opening may give. The functions give what is left to read in a
-- file, if that is known, and its failures and reads so far
abbrev pub files_of : {File : Type 0} → (List ℕ → Result File Error → Type 0)
    → (File → Option (List ℕ)) → (File → ℕ) → (File → Option ℕ) → Files
files_of {File} Opens remaining failures reads name (Ok text) =
    (file : File) × Opens name (Ok file) × IfSome (remaining file) (λ all. text ≡ all)
files_of Opens remaining failures reads name (Err fault) =
    IsFaultOf Opens failures reads name fault

-- the text of a file's name
abbrev pub name_in : FileName → Option (List ℕ)
name_in file = option_map (λ name. name.now) file

-- the plan by the text of its file, if one is named
abbrev pub plan_by : Option (List ℕ) → PlanRead
plan_by None = Ok example
plan_by (Some text) = plan_of text

-- the plan is that of the named file; if no file is named, it is the example plan
abbrev pub IsPlanNamed : Files → Option (List ℕ) → PlanRead → Type 0
IsPlanNamed files None plan = plan ≡ Ok example
IsPlanNamed files (Some name) plan = (text : List ℕ) × files name (Ok text) × (plan ≡ plan_of text)

-- there is no plan's text for this fault of the named file
abbrev pub IsPlanFault : Files → Option (List ℕ) → EngineFault → Type 0
IsPlanFault files None fault = ⊥
IsPlanFault files (Some name) fault = files name (Err fault)
