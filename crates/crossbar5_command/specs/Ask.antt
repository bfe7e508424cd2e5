use Rattle.std.specs.Prelude.{◌≡◌, ◌<◌, ◌^◌, ℕ, List, [], Option, Some, None, Result, MatchResult, codes, false, if◌then◌else◌, option_map, true, unwrap_or, ⊤}
use Rattle.std.specs.String.{string_bytes}
use Rattle.std.specs.Str.Parse.{IsNumeral, digits_value, without_leading_plus}
use Rattle.clap.specs.Words.{Row, Text, first_of}
use Rattle.crossbar5_command.specs.Fault.{IsFaultAmong, conflict_in, conflict_of}
use Rattle.crossbar5_command.specs.Forms.{is_given, look_form, walk_form}
use Rattle.crossbar5_command.specs.Program.{audit, default_kinds, draw, live, look, one, page, replay, walk}
use Rattle.crossbar5_command.specs.Subcommand.{Subcommand}
use Rattle.crossbar5_command.specs.declared.command_line.Ask.{Ask}
use Rattle.crossbar5_command.specs.declared.command_line.Work.{Work}
use Rattle.crossbar5_command.specs.declared.command_line.Work.TheVariants as work
use Rattle.crossbar5_task.specs.Tasks.{is_on_rows}
use Rattle.crossbar5_task.specs.declared.task.DrawForm.TheVariants.{Page, Svg, Text as AsText}
use Rattle.crossbar5_task.specs.declared.task.Task.{Task}
use Rattle.crossbar5_task.specs.declared.task.Task.TheVariants.{Audit, Draw, Look, Replay, Walk}
use Rattle.crossbar5_command.specs.declared.command_fault.CommandFault.{CommandFault}

-- the name of the subcommand for a task
abbrev pub task_name : Task → Text
task_name Replay = replay.name
task_name (Walk form) = walk.name
task_name (Look form) = look.name
task_name Audit = audit.name
task_name (Draw Page) = page.name
task_name (Draw _) = draw.name

-- the name of the subcommand that is asked for
abbrev pub work_name : Work → Text
work_name (work.Task task letters) = task_name task
work_name (work.Live dialling completing) = live.name

abbrev pub name_of : Ask → Text
name_of ask = work_name ask.work

-- if the text is that of a number of 32 bits, with a plus before it or none, it is this number
abbrev pub IsNumberOf : Text → ℕ → Type 0
IsNumberOf text n = IsNumeral 10 (without_leading_plus text)
    → digits_value 10 (without_leading_plus text) < 2 ^ 32
    → n ≡ digits_value 10 (without_leading_plus text)

-- the task has the form that the options say
abbrev pub HasForm : (Text → Option Text) → Task → Type 0
HasForm values Replay = ⊤
HasForm values (Walk form) =
    walk_form (is_given (values (codes "short"))) (is_given (values (codes "json"))) ≡ Some form
HasForm values (Look form) =
    look_form (is_given (values (codes "words"))) (is_given (values (codes "json")))
    (is_given (values (codes "svg"))) ≡ Some form
HasForm values Audit = ⊤
HasForm values (Draw AsText) = is_given (values (codes "text")) ≡ true
HasForm values (Draw Svg) = is_given (values (codes "text")) ≡ false
HasForm values (Draw Page) = ⊤

-- the letters of the markers' kinds: those given, or the default, which a task on records has
abbrev pub letters_for : (Text → Option Text) → Task → Text
letters_for values task =
    if is_on_rows task then unwrap_or (values (codes "markers")) default_kinds else default_kinds

-- the work is this task, with these letters
abbrev pub IsTaskWith : Task → Text → Work → Type 0
IsTaskWith task letters (work.Task asked kinds) = (asked ≡ task) × (string_bytes kinds ≡ letters)
IsTaskWith task letters (work.Live dialling completing) = ⊥

-- the work has the values that the options have
abbrev pub HasWork : (Text → Option Text) → Work → Type 0
HasWork values (work.Task task kinds) =
    HasForm values task × (string_bytes kinds ≡ letters_for values task)
HasWork values (work.Live dialling completing) =
    IsNumberOf (unwrap_or (values (codes "dial")) one) dialling
    × IsNumberOf (unwrap_or (values (codes "completing")) one) completing

-- the ask has the values that the options have
abbrev pub HasValues : (Text → Option Text) → Ask → Type 0
HasValues values ask =
    (option_map string_bytes ask.plan ≡ values (codes "plan")) × HasWork values ask.work

-- the ask is for this subcommand, with these values of its options
abbrev pub IsAskWith : Text → (Text → Option Text) → Ask → Type 0
IsAskWith name values ask = (name_of ask ≡ name) × HasValues values ask

-- the ask that no subcommand is needed for: a replay with no value given
abbrev pub IsUnnamedAsk : Ask → Type 0
IsUnnamedAsk = IsAskWith replay.name (λ _. None)

-- the ask is for what clap found: the subcommand, with the values of its options, or no subcommand
abbrev pub IsAskOf : Option (Text × List Row) → Ask → Type 0
IsAskOf None ask = IsUnnamedAsk ask
IsAskOf (Some met) ask = IsAskWith met.0 (λ name. first_of name met.1) ask

-- the answer to a subcommand with these values of its options: the ask for it, or the fault of two
-- forms
abbrev pub IsAnswerWith : Subcommand → (Text → Option Text) → Result Ask CommandFault → Type 0
IsAnswerWith s values answer = MatchResult answer
    (λ ask. IsAskWith s.name values ask × (conflict_in s.options values ≡ []))
    (IsFaultAmong (conflict_in s.options values))

-- the answer to what clap found
abbrev pub IsAnswerTo : Option (Text × List Row) → Result Ask CommandFault → Type 0
IsAnswerTo met answer = MatchResult answer (λ ask. IsAskOf met ask × (conflict_of met ≡ []))
    (IsFaultAmong (conflict_of met))
