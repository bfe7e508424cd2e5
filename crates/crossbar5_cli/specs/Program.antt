-- What the program does for the words of its command line.
use Rattle.std.specs.Prelude.{◌≡◌, ◌≢◌, [], ℕ, Bool, List, None, Option, Result, IfErr, IfOk, IsTrue, MatchResult, false, option_map, true}
use Rattle.clap.specs.Words.{Text, subcommand_of, takes}
use Rattle.crossbar5_command.specs.Ask.{IsAskOf, IsAskWith}
use Rattle.crossbar5_command.specs.Fault.{IsFaultAmong, conflict_of, faults_of}
use Rattle.crossbar5_command.specs.Program.{program, subcommands}
use Rattle.crossbar5_command.specs.Subcommand.{AskFor, GivenOption, Subcommand, value_of}
use Rattle.crossbar5_command.specs.declared.command_line.Ask.{Ask}
use Rattle.crossbar5_command.specs.declared.command_fault.CommandFault.{CommandFault}
use Rattle.crossbar5_command.specs.declared.command_fault.CommandFault.TheVariants.{Memory}
use Rattle.crossbar5.specs.declared.engine_fault.EngineFault.TheVariants.{Device}
use Rattle.crossbar5_cli.specs.Asks.{MayEndAsked}
use Rattle.crossbar5_cli.specs.CheckedWork.{RefusesMarkers}
use Rattle.crossbar5_cli.specs.Named.{Files}
use Rattle.crossbar5_cli.specs.Sentences.{text_of}
use Rattle.crossbar5_cli.specs.Streams.{MayEndOf}
use Rattle.crossbar5_cli.specs.Printed.{HasNoOutput, HasNoSentence, IsHelpTextOf, IsPut, IsStderrText, IsStderrTextOf}
use Rattle.crossbar5_cli.specs.declared.ended.Ending.{Ending}
use Rattle.crossbar5_cli.specs.declared.ended.Ending.TheVariants.{Failed, Printed}
use Rattle.crossbar5_cli.specs.declared.sentence.Sentence.{Sentence}
use Rattle.crossbar5_cli.specs.Runs.{IsEndAsAsked, Streams}

-- the words are read as this: words that ask for a subcommand with options, as what they ask for;
-- and all words as clap's definition of the program says, unless they have two forms
pub record IsReadAs (words : List Text) (asked : Result Ask CommandFault) : Type 0 where
  pub named : (s : Subcommand) (given : List GivenOption) → AskFor subcommands words s given
      → IfOk asked (IsAskWith s.name (value_of s.options given))
  pub found : IfOk asked (IsAskOf (subcommand_of program words))
  pub taken : takes program words ≡ true → conflict_of (subcommand_of program words) ≡ []
      → IfErr asked (λ fault. fault ≡ Memory)
  pub faults : MatchResult asked (λ _. faults_of words ≡ []) (IsFaultAmong (faults_of words))

-- what standard error is known to contain before a run and after it, and that a write or a flush
-- failed
pub record Errors : Type 1 where
  pub before : Option (List ℕ)
  pub after : Option (List ℕ)
  pub HasFailure : Type 0

-- the program did what is asked for and ended like this. If all was printed, standard error has
-- what belongs to the ending; if not all was, a write failed, or memory for a sentence ran out
pub record DoesAsk (ask : Ask) (files : Files) (streams : Streams) (errors : Errors)
    (ending : Ending) (is_printed : Bool) : Type 0 where
  pub reasons : Option (List ℕ)
  pub sentence : Option Sentence
  pub ends : IsEndAsAsked ask files streams
      (record { ending = ending; reasons = reasons; sentence = sentence })
  pub may : MayEndAsked ask.work ending
  pub no_failure : ending ≢ Failed Device → streams.HasNoFailure
  pub unread : RefusesMarkers ask.work → streams.IsUntouched
  pub printed : IsTrue is_printed
      → IsPut (IsStderrText ending reasons (option_map text_of sentence)) errors.before errors.after
  pub unprinted : is_printed ≡ false → sentence ≡ None → errors.HasFailure

-- the program read nothing, and wrote help or the version, or why the words are refused. Help and
-- the version end as printed, unless a write failed or memory ran out
pub record PrintsFault (fault : CommandFault) (build : List ℕ) (streams : Streams)
    (errors : Errors) (ending : Ending) (is_printed : Bool) : Type 0 where
  pub may : MayEndOf fault ending
  pub unread : streams.IsUntouched
  pub device : ending ≡ Failed Device → streams.HasFailure
  pub no_failure : ending ≢ Failed Device → streams.HasNoFailure
  pub shown : ending ≡ Printed → IsPut (IsHelpTextOf fault build) streams.before streams.after
  pub no_output : HasNoOutput fault → streams.IsUnwritten
  pub printed : IsTrue is_printed
      → IsPut (IsStderrTextOf fault ending) errors.before errors.after
  pub unprinted : is_printed ≡ false → HasNoSentence fault ending → errors.HasFailure

-- the program did what the words ask for
pub record DoesWords (words : List Text) (build : List ℕ) (files : Files) (streams : Streams)
    (errors : Errors) (ending : Ending) (is_printed : Bool) : Type 0 where
  pub asked : Result Ask CommandFault
  pub read : IsReadAs words asked
  pub does : MatchResult asked
      (λ ask. DoesAsk ask files streams errors ending is_printed)
      (λ fault. PrintsFault fault build streams errors ending is_printed)
