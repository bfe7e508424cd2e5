use Rattle.std.specs.Prelude.{ℕ, ◌<◌, ◌^◌, Option, Some, None, List, [], ◌∷◌, ◌++◌, map}
use Rattle.xbar_report.specs.Ranges.{IsRecord, IsTroubleLine}
use Rattle.xbar_report.specs.Text.{record_line, trouble_line, paths_line, closed_line}
use Rattle.xbar_report.specs.Sheet.{Sheet}
use Rattle.xbar_report.specs.declared.line.Counts.{Counts}
use Rattle.xbar_report.specs.declared.line.Line.{Line}
use Rattle.xbar_report.specs.declared.line.Line.TheVariants.{Record, Trouble, Paths, Closed}

-- the text of a line, with its line feed
abbrev pub line_text : Line → List ℕ
line_text (Record r) = record_line r
line_text (Trouble t) = trouble_line t
line_text (Paths paths) = paths_line paths
line_text (Closed closed) = closed_line closed

-- all parts of a line are in range
abbrev pub IsLine : Line → Type 0
IsLine (Record r) = IsRecord r
IsLine (Trouble t) = IsTroubleLine t
IsLine (Paths paths) = paths < 2 ^ 16
IsLine (Closed closed) = closed < 2 ^ 16

-- the two count lines, if there are counts
abbrev pub lines_of_counts : Option Counts → List Line
lines_of_counts None = []
lines_of_counts (Some counts) = Paths counts.paths ∷ Closed counts.closed ∷ []

-- the lines of a sheet
abbrev pub lines_of_sheet : Sheet → List Line
lines_of_sheet s = map Record s.records ++ map Trouble s.cards ++ lines_of_counts s.counts

-- a stage in the lines of a sheet: among the records, among the cards, after the first count line,
-- after the last
pub data Stage : Type 0 where
  AtRecords : Stage
  AtCards : Stage
  AtPaths : Stage
  AtEnd : Stage

-- the stage after a line, if the line may come at this stage
abbrev pub next_stage : Stage → Line → Option Stage
next_stage AtRecords (Record r) = Some AtRecords
next_stage AtRecords (Trouble t) = Some AtCards
next_stage AtRecords (Paths paths) = Some AtPaths
next_stage AtCards (Trouble t) = Some AtCards
next_stage AtCards (Paths paths) = Some AtPaths
next_stage AtPaths (Closed closed) = Some AtEnd
next_stage _ _ = None
