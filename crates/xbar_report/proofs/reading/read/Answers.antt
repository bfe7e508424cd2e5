use Rattle.std.proofs.Common.{◌≡◌, ◌∙◌, ◌++◌, ℕ, ◌+◌, ◌-◌, List, length, take, drop, inr, sym, ap, subst, arith, Option, take_at}
use Rattle.{std.proofs.lemmas.Result.err_from_is_err_and, xbar_office.specs.{Legal.HaveTurns, declared.reply.Record.Record}}
use Rattle.xbar_report.specs.{Dealt.{dealt_records, left_of}, Sheet.Sheet, declared.line.{Counts.Counts, TroubleLine.TroubleLine}}
use Rattle.xbar_report.proofs.{ReadBack.{read_sheet, dealt_report, dealt_text, report_read, no_wrong_turn, no_line_fault}, StrayCards.{stray_card, left_le}}
use Rattle.xbar_report.proofs.reading.read.Goals as goal

-- a sheet of these parts
abbrev sheet : List Record → List TroubleLine → Option Counts → Sheet
sheet records cards counts = record { records = records; cards = cards; counts = counts }

pub returns-in_err-draft-clause-reads : goal.returns-in_err-draft-clause-reads
returns-in_err-draft-clause-reads c records counts report is =
    let p = err_from_is_err_and c.from_residual.result c.from_residual.ensures.1 in
    rw p.1 (p.2 ∙ no_line_fault c.args.text.now records counts c.in_err-draft.field-0.0 report is c.in_err-draft.ensures.fault)

pub returns-in-Some-clause-reads : goal.returns-in-Some-clause-reads
returns-in-Some-clause-reads c records counts report is =
    let h =
    report_read c.args.text.now (sheet c.in_ok-draft.draft.records.items c.in_ok-draft.draft.cards.items c.in_ok-draft.counts) records counts
    c.in_ok-draft.ensures.lines report is in
    absurd (no_wrong_turn c.deref.result.now c.in-Some.place (subst (HaveTurns 0) (sym c.deref.ensures.value) h.turns) c.in-Some.ensures)

pub returns-in-Some-clause-fault : goal.returns-in-Some-clause-fault
returns-in-Some-clause-fault c =
    let s = sheet c.in_ok-draft.draft.records.items c.in_ok-draft.draft.cards.items c.in_ok-draft.counts in
    let h = read_sheet c.args.text.now s c.in_ok-draft.ensures.lines in
    (s, h.0, h.1, rw (← c.deref.ensures.value) c.in-Some.ensures)

-- how many cards are left
left_is : (result : ℕ) (records records' : List Record) (cards cards' : List TroubleLine) → result ≡ length (left_of records' cards') → records' ≡ records
    → cards' ≡ cards
    → result ≡ length (left_of records cards)
left_is result records records' cards cards' e e1 e2 =
    e ∙ ap (λ (rs : List Record). length (left_of rs cards')) e1 ∙ ap (λ (cs : List TroubleLine). length (left_of records cs)) e2

pub overflow_sub-number : goal.overflow_sub-number
overflow_sub-number c =
    let rs = c.in_ok-draft.draft.records.items in
    let cs = c.in_ok-draft.draft.cards.items in
    let left =
    left_is c.deal-left.result rs c.deref_mut.result.now cs c.deref-2.result.now c.deal-left.ensures.left c.deref_mut.ensures.value c.deref-2.ensures.value in
    let le = left_le rs cs in
    let size = c.len-then-left-gt0.ensures in
    let count = c.deref-2.ensures.len in
    let same = ap length c.deref-2.ensures.value in
    omega (arith, left, le, size, count, same)

pub returns-then-left-gt0-clause-reads : goal.returns-then-left-gt0-clause-reads
returns-then-left-gt0-clause-reads c records counts report is =
    let rs = c.in_ok-draft.draft.records.items in
    let cs = c.in_ok-draft.draft.cards.items in
    let h = report_read c.args.text.now (sheet rs cs c.in_ok-draft.counts) records counts c.in_ok-draft.ensures.lines report is in
    let left =
    left_is c.deal-left.result rs c.deref_mut.result.now cs c.deref-2.result.now c.deal-left.ensures.left c.deref_mut.ensures.value c.deref-2.ensures.value in
    let none = h.none_left in
    let some = c.if-left-gt0.true in
    absurd (omega (arith, left, none, some))

pub returns-then-left-gt0-clause-fault : goal.returns-then-left-gt0-clause-fault
returns-then-left-gt0-clause-fault c =
    let rs = c.in_ok-draft.draft.records.items in
    let cs = c.in_ok-draft.draft.cards.items in
    let s = sheet rs cs c.in_ok-draft.counts in
    let read = c.in_ok-draft.ensures.lines in
    let range = read_sheet c.args.text.now s read in
    let turns : HaveTurns 0 rs = subst (HaveTurns 0) c.deref.ensures.value c.in_default.ensures in
    let left =
    left_is c.deal-left.result rs c.deref_mut.result.now cs c.deref-2.result.now c.deal-left.ensures.left c.deref_mut.ensures.value c.deref-2.ensures.value in
    let some = c.if-left-gt0.true in
    let cards = c.len-then-left-gt0.ensures in
    let count = c.deref-2.ensures.len in
    let same = ap length c.deref-2.ensures.value in
    let records = c.len.ensures in
    let dealt_count = c.deref_mut.ensures.len in
    let dealt_same = ap length c.deref_mut.ensures.value in
    inr (
      (s, range.0, range.1, turns),
      stray_card c.args.text.now s (c.len.result + (c.len-then-left-gt0.result - c.deal-left.result) + 1) read turns range.0.records
          (omega (arith, left, some)) (omega (arith, left, some, cards, count, same, records, dealt_count, dealt_same))
          (dealt_report c.args.text.now s read turns),
    )

-- the records with their cards, as they are in the vector
vector_is : (n : ℕ) (now old old' rest : List Record) (cards cards' : List TroubleLine) → now ≡ dealt_records old' cards' → old' ≡ old → cards' ≡ cards
    → length now ≡ n
    → take n (now ++ rest) ≡ dealt_records old cards
vector_is n now old old' rest cards cards' e e1 e2 size =
    take_at now rest n size ∙ e ∙ ap (λ (rs : List Record). dealt_records rs cards') e1 ∙ ap (dealt_records old) e2

pub returns-clause-only : goal.returns-clause-only
returns-clause-only c =
    let rs = c.in_ok-draft.draft.records.items in
    let cs = c.in_ok-draft.draft.cards.items in
    let s = sheet rs cs c.in_ok-draft.counts in
    let read = c.in_ok-draft.ensures.lines in
    let turns : HaveTurns 0 rs = subst (HaveTurns 0) c.deref.ensures.value c.in_default.ensures in
    let left =
    left_is c.deal-left.result rs c.deref_mut.result.now cs c.deref-2.result.now c.deal-left.ensures.left c.deref_mut.ensures.value c.deref-2.ensures.value in
    let none = c.if-left-gt0.false in
    let all =
    vector_is c.in_ok-draft.draft.records.len c.deal-left.new.records rs c.deref_mut.result.now (drop (length c.deal-left.new.records) rs) cs
    c.deref-2.result.now
    c.deal-left.ensures.records c.deref_mut.ensures.value c.deref-2.ensures.value (c.deal-left.auto.records ∙ c.deref_mut.ensures.len) in
    rw all (dealt_report c.args.text.now s read turns, dealt_text c.args.text.now s read (omega (arith, left, none)))

pub returns-clause-reads : goal.returns-clause-reads
returns-clause-reads c records counts report is =
    let rs = c.in_ok-draft.draft.records.items in
    let cs = c.in_ok-draft.draft.cards.items in
    let h = report_read c.args.text.now (sheet rs cs c.in_ok-draft.counts) records counts c.in_ok-draft.ensures.lines report is in
    let all =
    vector_is c.in_ok-draft.draft.records.len c.deal-left.new.records rs c.deref_mut.result.now (drop (length c.deal-left.new.records) rs) cs
    c.deref-2.result.now
    c.deal-left.ensures.records c.deref_mut.ensures.value c.deref-2.ensures.value (c.deal-left.auto.records ∙ c.deref_mut.ensures.len) in
    (all ∙ h.dealt_is, h.counts_are)
