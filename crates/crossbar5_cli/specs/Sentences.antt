use Rattle.std.specs.Prelude.{◌≡◌, ◌∷◌, ℕ, ◌==◌, if◌then◌else◌, List, Option, Some, None}
use Rattle.std.specs.Prelude.{Result, Ok, Err, ◌++◌, codes, option_map}
use Rattle.std.specs.Borrow.{Bor}
use Rattle.std.specs.Option.{ForSome}
use Rattle.std.specs.String.{string_bytes}
use Rattle.std.specs.declared.io.Error.{Error}
use Rattle.clap.specs.declared.error.kind.ErrorKind.{ErrorKind}
use Rattle.clap.specs.declared.error.kind.ErrorKind.TheVariants.{ValueValidation}
use Rattle.crossbar5.specs.Refusal.{Explanation}
use Rattle.crossbar5_cli.specs.declared.work.Response.{Response}
use Rattle.crossbar5.specs.declared.engine_fault.EngineFault.{EngineFault}
use Rattle.crossbar5.specs.declared.engine_fault.EngineFault.TheVariants.{Memory, Device, Long}
use Rattle.crossbar5.specs.declared.written.Diagnostic.{Diagnostic}
use Rattle.crossbar5.specs.declared.written.Diagnostic.TheVariants as diagnostic
use Rattle.crossbar5.specs.declared.written.Status.{Status}
use Rattle.crossbar5.specs.declared.written.Status.TheVariants.{FoundWrong, PlanRefused, ReportRefused, TrafficRefused}
use Rattle.xbar_diagnostics.specs.Kinds.{wrong_in}
use Rattle.crossbar5_command.specs.declared.command_line.Work.{Work}
use Rattle.crossbar5_command.specs.declared.command_line.Work.TheVariants.{Live, Task}
use Rattle.crossbar5_cli.specs.declared.ended.Ending.{Ending}
use Rattle.crossbar5_cli.specs.declared.ended.Ending.TheVariants.{Answered, Failed, MarkersRefused, Refused}
use Rattle.crossbar5_cli.specs.declared.sentence.Sentence.{Sentence}
use Rattle.crossbar5_cli.specs.declared.sentence.Sentence.TheVariants.{Kinds, LiveMarkers, NotMarkerCount, Plan, Traffic, Report, NothingDrawn, PlanUnreadable, PlanTooLong, InputUnreadable, InputTooLong, OutputUnwritable}

-- the ending that a sentence explains
abbrev pub ending_on : Sentence → Ending
ending_on (Kinds diagnostic) = MarkersRefused
ending_on (LiveMarkers dialling completing) = MarkersRefused
ending_on (Plan file diagnostic) = Answered PlanRefused
ending_on NotMarkerCount = Refused
ending_on (Traffic diagnostic) = Answered TrafficRefused
ending_on (Report diagnostic) = Answered ReportRefused
ending_on NothingDrawn = Answered FoundWrong
ending_on (PlanUnreadable file reason) = Failed Device
ending_on (PlanTooLong file) = Failed Long
ending_on InputUnreadable = Failed Device
ending_on InputTooLong = Failed Long
ending_on OutputUnwritable = Failed Device

-- the sentence, if there is one, explains this ending
abbrev pub SpeaksOf : Option Sentence → Ending → Type 0
SpeaksOf sentence ending = ForSome sentence (λ sentence. ending ≡ ending_on sentence)

-- how a run ends: its ending, the lines that say why nothing is drawn, and the sentence
pub record End : Type 0 where
  pub ending : Ending
  pub reasons : Option (List ℕ)
  pub sentence : Option Sentence

-- the name of the plan's file, if one is named
abbrev pub FileName : Type 0
FileName = Option (Bor (List ℕ))

-- the sentence on a diagnostic. If no file is named, the plan is the example plan, which is never
-- refused
abbrev pub sentence_on_diagnostic : FileName → Diagnostic → Option Sentence
sentence_on_diagnostic file (diagnostic.Traffic found) = Some (Traffic found)
sentence_on_diagnostic file (diagnostic.Report found) = Some (Report found)
sentence_on_diagnostic (Some file) (diagnostic.Plan found) = Some (Plan file found)
sentence_on_diagnostic None (diagnostic.Plan found) = None

-- the sentence on a fault of a run of the engine, in which the input failed this many times
abbrev pub sentence_on_fault : EngineFault → ℕ → Option Sentence
sentence_on_fault Device failures = Some
    (if failures == 0 then OutputUnwritable else InputUnreadable)
sentence_on_fault Long failures = Some InputTooLong
sentence_on_fault Memory failures = None

-- the sentence on a response with this diagnostic, this status and these reasons why nothing is
-- drawn: on the diagnostic, or that wrong records aren't drawn; none if memory for a diagnostic ran
-- out
abbrev pub sentence_on_parts : FileName → Explanation → Status → List ℕ → Option Sentence
sentence_on_parts file (Ok (Some diagnostic)) status reasons =
    sentence_on_diagnostic file diagnostic
sentence_on_parts file (Ok None) FoundWrong (first ∷ rest) = Some NothingDrawn
sentence_on_parts file _ _ _ = None

-- the sentence on a response of the engine
abbrev pub sentence_on_answer : FileName → Response → Option Sentence
sentence_on_answer file answer =
    sentence_on_parts file answer.diagnostic answer.status answer.reasons.items

-- the sentence on a run of the engine
abbrev pub sentence_on_run : Result Response EngineFault → FileName → ℕ → Option Sentence
sentence_on_run (Ok answer) file failures = sentence_on_answer file answer
sentence_on_run (Err fault) file failures = sentence_on_fault fault failures

-- the lines on standard error before the sentence, which say why nothing is drawn
abbrev pub reasons_of_run : Result Response EngineFault → Option (List ℕ)
reasons_of_run (Ok answer) = Some answer.reasons.items
reasons_of_run (Err fault) = None

-- the sentence on a fault of the plan's file, with the system's reason if it is known
abbrev pub sentence_on_plan_file : EngineFault → FileName → Option Error → Option Sentence
sentence_on_plan_file Device (Some file) reason = Some (PlanUnreadable file reason)
sentence_on_plan_file Long (Some file) reason = Some (PlanTooLong file)
sentence_on_plan_file _ _ reason = None

-- the sentence on letters that name no kinds
abbrev pub sentence_on_kinds : Bor (List ℕ) → Option Sentence
sentence_on_kinds letters =
    option_map (λ wrong. Kinds (record { kinds = letters; wrong = wrong })) (wrong_in letters.now)

-- the sentence on the markers that are asked for, which are refused
abbrev pub IsOnMarkers : Work → Option Sentence → Type 0
IsOnMarkers (Task task letters) sentence = (text : Bor (List ℕ))
    × (text.now ≡ string_bytes letters) × (sentence ≡ sentence_on_kinds text)
IsOnMarkers (Live dialling completing) sentence = sentence ≡ Some (LiveMarkers dialling completing)

-- the sentence after clap's text of this kind was written or couldn't be, by the ending
abbrev pub sentence_on_printing : ErrorKind → Ending → Option Sentence
sentence_on_printing kind (Failed Device) = Some OutputUnwritable
sentence_on_printing ValueValidation Refused = Some NotMarkerCount
sentence_on_printing _ _ = None

-- the text of a sentence, without its line end. Those with a diagnostic, numbers of markers or a
-- reason of the system aren't stated
abbrev pub text_of : Sentence → Option (List ℕ)
text_of (Kinds diagnostic) = None
text_of (LiveMarkers dialling completing) = None
text_of NotMarkerCount =
    Some (codes "crossbar5: " ++ codes "expected a number of markers from 1 to 47")
text_of (Plan file diagnostic) = None
text_of (Traffic diagnostic) = None
text_of (Report diagnostic) = None
text_of NothingDrawn = Some (codes "crossbar5: " ++ codes
    "nothing is drawn, since the records are wrong under this plan; if they were made with another, name it with --plan")
text_of (PlanUnreadable file reason) = None
text_of (PlanTooLong file) =
    Some (codes "crossbar5: " ++ (codes "the plan " ++ file.now ++ codes " is too long"))
text_of InputUnreadable = Some (codes "crossbar5: " ++ codes "cannot read standard input")
text_of InputTooLong = Some (codes "crossbar5: " ++ codes "standard input is too long")
text_of OutputUnwritable = Some (codes "crossbar5: " ++ codes "cannot write standard output")
