use Rattle.std.specs.Prelude.{◌≡◌, ℕ, Option, IfSome, List, ◌++◌, flat_map}
use Rattle.std.specs.List.{AllByRecursion}
use Rattle.xbar_office.specs.Legal.{HaveTurns}
use Rattle.xbar_office.specs.declared.reply.Record.{Record}
use Rattle.xbar_report.specs.Ranges.{IsRecord, IsTroubleLine, AreCounts}
use Rattle.xbar_report.specs.Text.{record_line, trouble_line, count_lines, records_text}
use Rattle.xbar_report.specs.declared.line.Counts.{Counts}
use Rattle.xbar_report.specs.declared.line.TroubleLine.{TroubleLine}

-- the contents of the lines of a text, whatever the turns of the records and the owners of the
-- cards: records, whose own cards aren't shown, then cards, then counts or none
pub record Sheet : Type 0 where
  pub records : List Record
  pub cards : List TroubleLine
  pub counts : Option Counts

-- the text of a sheet
abbrev pub sheet_text : Sheet → List ℕ
sheet_text s =
    flat_map record_line s.records ++ flat_map trouble_line s.cards ++ count_lines s.counts

-- all parts of a sheet are in range
pub record IsSheet (s : Sheet) : Type 0 where
  pub records : AllByRecursion IsRecord s.records
  pub cards : AllByRecursion IsTroubleLine s.cards
  pub counts : IfSome s.counts AreCounts

-- records, each with its cards, and counts or none are a report: all of it is in range, and the
-- records have the turns from 0 on
pub record IsReport (records : List Record) (counts : Option Counts) : Type 0 where
  pub ranges : AllByRecursion IsRecord records
  pub turns : HaveTurns 0 records
  pub fits : IfSome counts AreCounts

-- a text is that of some sheet
abbrev pub IsSheetText : List ℕ → Type 0
IsSheetText text = (s : Sheet) × IsSheet s × (text ≡ sheet_text s)

-- a text is that of some report
abbrev pub IsReportText : List ℕ → Type 0
IsReportText text =
    (records : List Record) × (counts : Option Counts) × IsReport records counts
    × (text ≡ records_text records counts)
