use Rattle.std.specs.Prelude.{◌≡◌, ℕ, ◌*◌, Option, Some, None, List, [], ◌∷◌, ◌++◌, codes, decimal, length, take, slice_get, ⊤}
use Rattle.xbar_plan.specs.Tables.{Tables}
use Rattle.xbar_office.specs.Audit.{IsFirstWrongReply}
use Rattle.xbar_office.specs.Legal.{IsLegal, after}
use Rattle.xbar_office.specs.Whole.{whole}
use Rattle.xbar_office.specs.declared.reply.Record.{Record}
use Rattle.xbar_report.specs.Reading.{IsFaultOf}
use Rattle.xbar_report.specs.Sheet.{IsReport}
use Rattle.xbar_report.specs.Text.{card_lines, closed_line, line_with, paths_line, record_line, records_text}
use Rattle.xbar_report.specs.declared.line.Counts.{Counts}
use Rattle.xbar_report.specs.declared.report_fault.ReportFault.TheVariants.{Line, Turns}
use Rattle.crossbar5.specs.Refusal.{report_fault_line}
use Rattle.crossbar5.specs.declared.written.Status.{Status}
use Rattle.crossbar5.specs.declared.written.Status.TheVariants.{Fine, ReportRefused, FoundWrong}
use Rattle.crossbar5.specs.declared.finding.Finding.{Finding}
use Rattle.crossbar5.specs.declared.finding.Finding.TheVariants.{NoReport, WrongTurn, WrongReply, WrongCounts, Legal}
use Rattle.crossbar5.specs.declared.finding.OfficeCounts.{OfficeCounts}

-- the counts of the office after records: its paths, and four closed crosspoints for each
abbrev pub counts_after : Tables → List Record → OfficeCounts
counts_after plan records = record {
  paths = length (after plan records);
  closed = 4 * length (after plan records);
}

-- the given counts, if any, are these
abbrev pub AreRightCounts : Option Counts → OfficeCounts → Type 0
AreRightCounts None standing = ⊤
AreRightCounts (Some counts) standing =
    (counts.paths ≡ standing.paths) × (counts.closed ≡ standing.closed)

-- a record with the right reply: the reply of the one-marker office, after the records before it
abbrev pub righted : Tables → List Record → Record → Record
righted plan before given = record given {
  reply = (whole plan (after plan before) given.job).reply;
}

-- the finding on records that have the turns from 0 on, and on the counts after them, if any
abbrev pub IsFoundOf : Tables → List Record → Option Counts → Finding → Type 0
IsFoundOf plan records counts (Legal count standing) =
    IsLegal plan records × (count ≡ length records) × (standing ≡ counts_after plan records)
    × AreRightCounts counts standing
IsFoundOf plan records counts (WrongCounts standing) =
    IsLegal plan records × (standing ≡ counts_after plan records)
    × ¬ AreRightCounts counts standing
IsFoundOf plan records counts (WrongReply given right) =
    IsFirstWrongReply plan records given.turn × (slice_get records given.turn ≡ Some given)
    × (right ≡ righted plan (take given.turn records) given)
IsFoundOf plan records counts (WrongTurn place) = ⊥
IsFoundOf plan records counts (NoReport line) = ⊥

-- the finding on a text: the line or the turn that is wrong, or the finding on its records and
-- counts
abbrev pub IsFoundIn : Tables → List ℕ → Finding → Type 0
IsFoundIn plan text (NoReport line) = IsFaultOf text (Line line)
IsFoundIn plan text (WrongTurn place) = IsFaultOf text (Turns place)
IsFoundIn plan text finding =
    (records : List Record) × (counts : Option Counts) × IsReport records counts
    × (text ≡ records_text records counts) × IsFoundOf plan records counts finding

-- the lines of the two counts
abbrev pub counts_text : OfficeCounts → List ℕ
counts_text standing = paths_line standing.paths ++ closed_line standing.closed

-- the line of a record, and then those of its trouble cards
abbrev pub record_text : Record → List ℕ
record_text r = record_line r ++ card_lines r

-- the first line that an audit writes, with these fields
abbrev pub audit_line : List (List ℕ) → List ℕ
audit_line fields = line_with (codes "AUDIT" ∷ fields)

-- what an audit writes for a finding
abbrev pub finding_text : Finding → List ℕ
finding_text (Legal count standing) =
    audit_line (codes "LEGAL" ∷ decimal count ∷ []) ++ counts_text standing
finding_text (WrongCounts standing) = audit_line (codes "COUNTS" ∷ []) ++ counts_text standing
finding_text (WrongReply given right) =
    audit_line (codes "REPLY" ∷ decimal given.turn ∷ []) ++ record_text given ++ record_text right
finding_text (WrongTurn place) = audit_line (codes "TURNS" ∷ decimal place ∷ [])
finding_text (NoReport line) = report_fault_line line

-- the status of an audit with this finding
abbrev pub finding_status : Finding → Status
finding_status (Legal count standing) = Fine
finding_status (WrongCounts standing) = FoundWrong
finding_status (WrongReply given right) = FoundWrong
finding_status (WrongTurn place) = FoundWrong
finding_status (NoReport line) = ReportRefused

-- under a plan's tables, the text and the status report the finding on a text of records
pub record IsAuditUnder (plan : Tables) (records text : List ℕ) (status : Status) : Type 0 where
  pub finding : Finding
  pub found : IsFoundIn plan records finding
  -- it is the finding on any records, with counts or without, that have this text
  pub only : (list : List Record) (counts : Option Counts) → IsReport list counts
      → records ≡ records_text list counts → IsFoundOf plan list counts finding
  -- so legal records with right counts are found legal
  pub legal : (list : List Record) (counts : Option Counts) → IsReport list counts
      → records ≡ records_text list counts → IsLegal plan list
      → AreRightCounts counts (counts_after plan list)
      → finding ≡ Legal (length list) (counts_after plan list)
  pub text_is : text ≡ finding_text finding
  pub status_is : status ≡ finding_status finding
