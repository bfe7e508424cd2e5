use Rattle.std.specs.Prelude.{◌≡◌, ◌⊎◌, ℕ, ◌-◌, List, take, ⊤}
use Rattle.xbar_equip.specs.TextLines.{lines}
use Rattle.xbar_office.specs.Audit.{IsFirstWrongTurn}
use Rattle.xbar_office.specs.Legal.{HaveTurns}
use Rattle.xbar_report.specs.Sheet.{Sheet, sheet_text, IsSheet, IsSheetText, IsReportText}
use Rattle.xbar_report.specs.declared.report_fault.ReportFault.{ReportFault}
use Rattle.xbar_report.specs.declared.report_fault.ReportFault.TheVariants.{Line, Turns, Memory}

-- two texts have the same first `count` lines; all lines, if there are fewer
abbrev pub HaveSameLines : ℕ → List ℕ → List ℕ → Type 0
HaveSameLines count a b = take count (lines a) ≡ take count (lines b)

-- the number, from 1, of a text's first stray line: some text of this kind has the lines before
-- it, and no text of this kind has that line too
pub record IsFirstStrayLine (IsOfKind : List ℕ → Type 0) (text : List ℕ) (number : ℕ) : Type 0 where
  pub before : (other : List ℕ) × IsOfKind other × HaveSameLines (number - 1) other text
  pub here : (other : List ℕ) → IsOfKind other → ¬ HaveSameLines number other text

-- a text is that of a sheet whose records have the turns from 0 on
abbrev pub HasTurns : List ℕ → Type 0
HasTurns text = (s : Sheet) × IsSheet s × (text ≡ sheet_text s) × HaveTurns 0 s.records

-- the fault of a text that is no report's: the lines are checked first, each by itself, then the
-- turns, then the owners of the cards; memory may be refused for any text
abbrev pub IsFaultOf : List ℕ → ReportFault → Type 0
IsFaultOf text (Line number) =
    IsFirstStrayLine IsSheetText text number
    ⊎ (HasTurns text × IsFirstStrayLine IsReportText text number)
IsFaultOf text (Turns place) =
    (s : Sheet) × IsSheet s × (text ≡ sheet_text s) × IsFirstWrongTurn s.records place
IsFaultOf text Memory = ⊤
