use Rattle.std.specs.Prelude.{◌≡◌, ℕ, List, [], ◌∷◌, ◌++◌, map, ⊤}
use Rattle.xbar_report.specs.Bare.{bare_line}
use Rattle.xbar_report.specs.Line.{IsLine, line_text, lines_of_sheet, Stage, AtRecords, AtCards, AtPaths, AtEnd}
use Rattle.xbar_equip.specs.TextLines.{lines}
use Rattle.xbar_report.specs.Reading.{IsFirstStrayLine}
use Rattle.xbar_report.specs.Sheet.{Sheet, IsSheetText}
use Rattle.xbar_report.specs.declared.line.TroubleLine.{TroubleLine}
use Rattle.xbar_report.specs.declared.report_fault.ReportFault.{ReportFault}
use Rattle.xbar_report.specs.declared.report_fault.ReportFault.TheVariants as fault
use Rattle.xbar_report.specs.declared.reading.Draft.{Draft}
use Rattle.xbar_report.specs.declared.reading.Tally.{Tally}
use Rattle.xbar_report.specs.declared.reading.Tally.TheVariants.{Missing, Begun, Whole}
use Rattle.xbar_report.specs.declared.line.Line.{Line}
use Rattle.xbar_report.specs.declared.line.Line.TheVariants as line

-- the count lines that have been read so far
abbrev pub tally_lines : Tally → List Line
tally_lines Missing = []
tally_lines (Begun paths) = line.Paths paths ∷ []
tally_lines (Whole counts) = line.Paths counts.paths ∷ line.Closed counts.closed ∷ []

-- the lines that have been read so far
abbrev pub draft_lines : Draft → List Line
draft_lines d =
    map line.Record d.records.items ++ map line.Trouble d.cards.items ++ tally_lines d.tally

-- a text is that of this line and of no other, up to the cards of a record, which its line doesn't
-- show
pub record IsTextOf (text : List ℕ) (line : Line) : Type 0 where
  pub range : IsLine line
  pub text_is : text ≡ line_text line
  pub only : (other : Line) → IsLine other → text ≡ line_text other → bare_line other ≡ line

-- the texts are those of the lines, in order
abbrev pub AreTextsOf : List (List ℕ) → List Line → Type 0
AreTextsOf [] [] = ⊤
AreTextsOf (text ∷ texts) (line ∷ lines) = IsTextOf text line × AreTextsOf texts lines
AreTextsOf _ _ = ⊥

-- the stage after the lines that have been read so far
abbrev pub stage_behind : Tally → List TroubleLine → Stage
stage_behind Missing [] = AtRecords
stage_behind Missing (card ∷ cards) = AtCards
stage_behind (Begun paths) cards = AtPaths
stage_behind (Whole counts) cards = AtEnd

-- the stage that a draft has reached
abbrev pub stage_of : Draft → Stage
stage_of d = stage_behind d.tally d.cards.items

-- the lines of a text are those of a sheet
abbrev pub IsReadAs : List ℕ → Sheet → Type 0
IsReadAs text s = AreTextsOf (lines text) (lines_of_sheet s)

-- the fault of a text that isn't a sheet's: its first stray line, unless memory was refused
abbrev pub IsLineFault : List ℕ → ReportFault → Type 0
IsLineFault text (fault.Line number) = IsFirstStrayLine IsSheetText text number
IsLineFault text (fault.Turns place) = ⊥
IsLineFault text fault.Memory = ⊤
