-- What is written on standard error, and for help and refusals.
use Rattle.std.specs.Prelude.{◌≡◌, ◌==◌, if◌then◌else◌, ◌∷◌, [], ◌++◌, ℕ, List, Option, None, Some, IfSome, map, option_map, ⊤}
use Rattle.std.specs.Io.KnownBytes.{Appends}
use Rattle.clap.specs.declared.error.kind.ErrorKind.{ErrorKind}
use Rattle.clap.specs.declared.error.kind.ErrorKind.TheVariants.{DisplayVersion}
use Rattle.clap.specs.Words.{kind_of}
use Rattle.crossbar5_command.specs.declared.command_fault.CommandFault.{CommandFault}
use Rattle.crossbar5_command.specs.declared.command_fault.CommandFault.TheVariants as command
use Rattle.crossbar5_cli.specs.Endings.{line_of}
use Rattle.crossbar5_cli.specs.Sentences.{sentence_on_printing, text_of}
use Rattle.crossbar5_cli.specs.Streams.{stream_of}
use Rattle.crossbar5_cli.specs.declared.ended.Ending.{Ending}
use Rattle.crossbar5_cli.specs.declared.help.Stream.{Stream}
use Rattle.crossbar5_cli.specs.declared.help.Stream.TheVariants.{Errors, Output}

-- a text with this property is appended to what a stream contained, as far as that is known
abbrev pub IsPut : (List ℕ → Type 0) → Option (List ℕ) → Option (List ℕ) → Type 0
IsPut IsText before after = (text : List ℕ) × IsText text × Appends before after text

-- the text is the known one, if it is known
abbrev pub IsKnownAs : Option (List ℕ) → List ℕ → Type 0
IsKnownAs known text = IfSome known (λ all. text ≡ all)

-- a byte, or a space in place of a line end
abbrev pub without_line_end : ℕ → ℕ
without_line_end byte = if byte == 10 then 32 else byte

-- one line with its line end: the known text, or some text, with a space for each line end in it
pub record IsOneLine (known : Option (List ℕ)) (line : List ℕ) : Type 0 where
  pub text : List ℕ
  pub text_is : IsKnownAs known text
  pub line_is : line ≡ map without_line_end text ++ 10 ∷ []

-- a sentence as one line, if there is a sentence. Its text may be unknown
abbrev pub IsSentenceLine : Option (Option (List ℕ)) → List ℕ → Type 0
IsSentenceLine None line = line ≡ []
IsSentenceLine (Some known) line = IsOneLine known line

-- a line with its line end, if there is one
abbrev pub line_text : Option (List ℕ) → List ℕ
line_text (Some line) = line ++ 10 ∷ []
line_text None = []

-- the reasons why nothing is drawn, if there are any
abbrev pub reasons_text : Option (List ℕ) → List ℕ
reasons_text (Some lines) = lines
reasons_text None = []

-- the line of the ending, and the reasons
abbrev pub lines_text : Ending → Option (List ℕ) → List ℕ
lines_text ending reasons = line_text (line_of ending) ++ reasons_text reasons

-- what is written on standard error: these lines, and then one line with the sentence, if there is
-- one
pub record IsStderrText (ending : Ending) (reasons : Option (List ℕ))
    (sentence : Option (Option (List ℕ))) (text : List ℕ) : Type 0 where
  pub line : List ℕ
  pub line_is : IsSentenceLine sentence line
  pub text_is : text ≡ lines_text ending reasons ++ line

-- clap's text, which for a version is followed by the line on how the program was built
abbrev pub printed_text : ErrorKind → List ℕ → List ℕ → List ℕ
printed_text DisplayVersion text build = text ++ (build ++ 10 ∷ [])
printed_text _ text build = text

-- what is written for help or the version: clap's text, as far as it is known, and what follows it
pub record IsHelpText (kind : ErrorKind) (known : Option (List ℕ)) (build written : List ℕ)
    : Type 0 where
  pub text : List ℕ
  pub text_is : IsKnownAs known text
  pub written_is : written ≡ printed_text kind text build

-- what is written on standard error why words are refused: clap's text, as far as it is known, and
-- then what belongs to the ending
pub record IsRefusalText (kind : ErrorKind) (known : Option (List ℕ)) (ending : Ending)
    (written : List ℕ) : Type 0 where
  pub text : List ℕ
  pub text_is : IsKnownAs known text
  pub rest : List ℕ
  pub rest_is : IsStderrText ending None (option_map text_of (sentence_on_printing kind ending)) rest
  pub written_is : written ≡ text ++ rest

-- what is written on standard error when clap's text of this kind goes to this stream, and the run
-- ends like this
abbrev pub IsStderrTextWith : Stream → ErrorKind → Option (List ℕ) → Ending → List ℕ → Type 0
IsStderrTextWith Errors kind known ending text = IsRefusalText kind known ending text
IsStderrTextWith Output kind known ending text =
    IsStderrText ending None (option_map text_of (sentence_on_printing kind ending)) text

-- the same for words that ask for nothing to be done. The text of clap's errors isn't stated
abbrev pub IsStderrTextOf : CommandFault → Ending → List ℕ → Type 0
IsStderrTextOf command.Memory ending text = IsStderrText ending None None text
IsStderrTextOf (command.Refused error) ending text =
    IsStderrTextWith (stream_of (kind_of error)) (kind_of error) None ending text

-- the words ask for nothing to be done, and neither for help nor for the version
abbrev pub HasNoOutput : CommandFault → Type 0
HasNoOutput command.Memory = ⊤
HasNoOutput (command.Refused error) = stream_of (kind_of error) ≡ Errors

-- what is written on the output for words that ask for help or the version
abbrev pub IsHelpTextOf : CommandFault → List ℕ → List ℕ → Type 0
IsHelpTextOf command.Memory build text = ⊥
IsHelpTextOf (command.Refused error) build text = IsHelpText (kind_of error) None build text

-- standard error gets neither clap's text nor a sentence, so nothing there takes memory
abbrev pub HasNoSentence : CommandFault → Ending → Type 0
HasNoSentence command.Memory ending = ⊤
HasNoSentence (command.Refused error) ending =
    (stream_of (kind_of error) ≡ Output) × (sentence_on_printing (kind_of error) ending ≡ None)
