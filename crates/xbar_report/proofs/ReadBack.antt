use Rattle.std.proofs.Common.{◌≡◌, ◌≢◌, ◌+◌, ℕ, List, [], ◌∷◌, ◌++◌, length, map, refl, sym, ap, subst, ◌∙◌, Option, flat_map, slice_get, append-nil}
use Rattle.{std.proofs.lemmas.List.{nil_from_length, Folds.flat_map-map}, xbar_office.{proofs.AuditedRecords.{never, turn_at}, specs.Audit.IsFirstWrongTurn}}
use Rattle.{xbar_office.specs.{Legal.HaveTurns, declared.reply.Record.Record}, xbar_report.specs.{Bare.bare_record, Dealt.{dealt_records, left_of}}}
use Rattle.xbar_report.specs.{Draft.{IsLineFault, IsReadAs}, Line.{line_text, lines_of_sheet}, Sheet.{Sheet, sheet_text, IsSheet, IsReport}, Text.record_line}
use Rattle.xbar_report.specs.{Text.{trouble_line, count_lines, records_text, troubles_of}, declared.{line.Counts.Counts, report_fault.ReportFault.ReportFault}}
use Rattle.xbar_report.proofs.{Reports.{dealt_lines, dealt_range, dealt_turns, taken_and_left}, Sheets.{range_of_sheet, sheet_text_is, texts_are, texts_range}}
use Rattle.{xbar_report.proofs.Uniques.{only_sheet, own_dealt, report_range, report_text_is, sheet_of}, xbar_equip.specs.TextLines.lines}
use Rattle.xbar_equip.proofs.WholeLines.{joined_lines}
use Rattle.xbar_report.specs.declared.report_fault.ReportFault.TheVariants as fault

-- what was read is a sheet with this text
pub read_sheet : (text : List ℕ) (s : Sheet) → IsReadAs text s → IsSheet s × (text ≡ sheet_text s)
read_sheet text s read = (
  range_of_sheet s (texts_range (lines text) (lines_of_sheet s) read),
  sym (joined_lines text) ∙ ap (flat_map (λ (l : List ℕ). l)) (texts_are (lines text) (lines_of_sheet s) read)
      ∙ flat_map-map (λ (l : List ℕ). l) line_text (lines_of_sheet s) ∙ sym (sheet_text_is s),
)

-- and a report, once its records have their turns and took their cards
pub dealt_report : (text : List ℕ) (s : Sheet) → IsReadAs text s → HaveTurns 0 s.records → IsReport (dealt_records s.records s.cards) s.counts
dealt_report text s read turns =
    let range = (read_sheet text s read).0 in
    record { ranges = dealt_range s.records s.cards range.records range.cards; turns = dealt_turns 0 s.records s.cards turns; fits = range.counts }

record_lines_same : (rs rs' : List Record) → map bare_record rs ≡ map bare_record rs' → flat_map record_line rs ≡ flat_map record_line rs'
record_lines_same [] [] e = refl
record_lines_same [] (x ∷ rs') e = cc
record_lines_same (r ∷ rs) [] e = cc
record_lines_same (r ∷ rs) (x ∷ rs') e =
    let first : bare_record r ≡ bare_record x = cc in
    let line : record_line r ≡ record_line x = ap record_line first in
    let later = record_lines_same rs rs' cc in
    cc

-- which has this text if no card is left
pub dealt_text : (text : List ℕ) (s : Sheet) → IsReadAs text s → length (left_of s.records s.cards) ≡ 0
    → text ≡ records_text (dealt_records s.records s.cards) s.counts
dealt_text text s read none =
    let rs = dealt_records s.records s.cards in
    let left = nil_from_length (left_of s.records s.cards) none in
    let taken : flat_map troubles_of rs ≡ s.cards =
    sym (append-nil (flat_map troubles_of rs)) ∙ ap (λ (more : List _). flat_map troubles_of rs ++ more) (sym left) ∙ taken_and_left s.records s.cards in
    let front : flat_map record_line s.records ≡ flat_map record_line rs = record_lines_same s.records rs (sym (dealt_lines s.records s.cards)) in
    (read_sheet text s read).1
    ∙ ap (λ (records : List ℕ). records ++ flat_map trouble_line s.cards ++ count_lines s.counts) front
    ∙ ap (λ (cards : List _). flat_map record_line rs ++ flat_map trouble_line cards ++ count_lines s.counts) (sym taken)
    ∙ report_text_is rs s.counts

bare_turns : (turn : ℕ) (rs : List Record) → HaveTurns turn rs → HaveTurns turn (map bare_record rs)
bare_turns turn [] h = tt
bare_turns turn (r ∷ rs) h = (h.0, bare_turns (turn + 1) rs h.1)

-- a report's text is read as that report

pub record IsReportRead (s : Sheet) (records : List Record) (counts : Option Counts) : Type 0 where
  pub turns : HaveTurns 0 s.records
  pub dealt_is : dealt_records s.records s.cards ≡ records
  pub none_left : length (left_of s.records s.cards) ≡ 0
  pub counts_are : s.counts ≡ counts

pub report_read : (text : List ℕ) (s : Sheet) (records : List Record) (counts : Option Counts) → IsReadAs text s → IsReport records counts
    → text ≡ records_text records counts → IsReportRead s records counts
report_read text s records counts read report is =
    let same = only_sheet text s (sheet_of records counts) read (report_range records counts report) (is ∙ sym (report_text_is records counts)) in
    let own = own_dealt 0 records report.turns report.ranges in
    record {
      turns = subst (HaveTurns 0) (sym same.records) (bare_turns 0 records report.turns);
      dealt_is = ap (λ (rs : List Record). dealt_records rs s.cards) same.records ∙ ap (dealt_records (map bare_record records)) same.cards ∙ own.0;
      none_left = ap length (ap (λ (rs : List Record). left_of rs s.cards) same.records ∙ ap (left_of (map bare_record records)) same.cards ∙ own.1);
      counts_are = same.counts;
    }

-- records with their turns have no wrong turn
pub no_wrong_turn : (records : List Record) (place : ℕ) → HaveTurns 0 records → IsFirstWrongTurn records place → ⊥
no_wrong_turn records place turns wrong =
    never (slice_get records place) (λ r. r.turn ≢ place) wrong.here (λ r here other. other (turn_at records place r turns here))

-- the lines of a report's text have no fault
pub no_line_fault : (text : List ℕ) (records : List Record) (counts : Option Counts) (why : ReportFault) → IsReport records counts
    → text ≡ records_text records counts
    → IsLineFault text why → why ≡ fault.Memory
no_line_fault text records counts (fault.Line number) report is stray =
    absurd (stray.here text (sheet_of records counts, report_range records counts report, is ∙ sym (report_text_is records counts)) refl)
no_line_fault text records counts (fault.Turns place) report is stray = absurd stray
no_line_fault text records counts fault.Memory report is stray = refl
