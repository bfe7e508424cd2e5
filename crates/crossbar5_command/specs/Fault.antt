use Rattle.std.specs.Prelude.{◌≢◌, ◌&&◌, ℕ, List, [], ◌∷◌, Option, None, Some, is_some}
use Rattle.std.specs.Prelude.{count_by, if◌then◌else◌, nat_lt}
use Rattle.std.specs.Option.{option_map_or}
use Rattle.clap.specs.Kinds.{or_else}
use Rattle.clap.specs.Words.{IsAmong, Kinds, Row, Text, fault_of, first_of, kind_of, subcommand_of}
use Rattle.clap.specs.declared.error.Error.{Error}
use Rattle.clap.specs.declared.error.kind.ErrorKind.{ErrorKind}
use Rattle.clap.specs.declared.error.kind.ErrorKind.TheVariants.{ArgumentConflict, OutOfMemory}
use Rattle.crossbar5_command.specs.Forms.{is_given}
use Rattle.crossbar5_command.specs.Program.{forms, program, subcommands}
use Rattle.crossbar5_command.specs.Subcommand.{NamedOption, option_named, subcommand_named}
use Rattle.crossbar5_command.specs.declared.command_fault.CommandFault.{CommandFault}
use Rattle.crossbar5_command.specs.declared.command_fault.CommandFault.TheVariants.{Memory, Refused}

-- ---- errors

-- the fault for an error of clap that has this kind
abbrev pub fault_of_kind : ErrorKind → Error → CommandFault
fault_of_kind OutOfMemory error = Memory
fault_of_kind _ error = Refused error

-- the fault for an error of clap
abbrev pub fault_for : Error → CommandFault
fault_for error = fault_of_kind (kind_of error) error

-- a refusal has one of these kinds, and never the kind for running out of memory
abbrev pub IsFaultAmong : Kinds → CommandFault → Type 0
IsFaultAmong kinds (Refused error) = (kind_of error ≢ OutOfMemory) × IsAmong (kind_of error) kinds
IsFaultAmong kinds Memory = Unit {0}

-- ---- two forms

-- how many of these options say in which form to print, and are given
abbrev pub form_count : List NamedOption → (Text → Option Text) → ℕ
form_count options values =
    count_by (λ o. is_some (option_named forms o.name) && is_given (values o.name)) options

-- the kind of fault if two forms are given
abbrev pub conflict_in : List NamedOption → (Text → Option Text) → Kinds
conflict_in options values =
    if nat_lt 1 (form_count options values) then ArgumentConflict ∷ [] else []

-- the same for what clap found: a subcommand with the values of its options, or none
abbrev pub conflict_of : Option (Text × List Row) → Kinds
conflict_of None = []
conflict_of (Some met) =
    option_map_or (λ s. conflict_in s.options (λ name. first_of name met.1))
    (subcommand_named subcommands met.0) []

-- the kinds of fault of words: those by clap's definition, otherwise that of two forms
abbrev pub faults_of : List Text → Kinds
faults_of words = or_else (fault_of program words) (conflict_of (subcommand_of program words))
