use Rattle.std.proofs.Common.{◌≡◌, ◌≤◌, ◌+◌, ℕ, zero, suc, Bool, true, false, cond, List, [], ◌∷◌, ◌++◌, length, map, take, drop, refl, sym, ap, ◌∙◌, arith}
use Rattle.std.proofs.Common.{append_assoc, ◌==◌, ◌&&◌, Option, Some, None, flat_map, take_at, drop_at, ne_eqb}
use Rattle.std.{specs.List.AllByRecursion, proofs.lemmas.{List.length-map, Grind.flat_map-append}}
use Rattle.xbar_office.specs.{Legal.HaveTurns, declared.reply.{Card.Card, Record.{Record as TheRecord}}}
use Rattle.xbar_report.specs.{Bare.{bare_line, bare_record}, Dealt.{belongs, own_of, own_count_of, with_cards, dealt_records, left_of}, Draft.IsReadAs}
use Rattle.xbar_report.specs.{Line.{lines_of_sheet, lines_of_counts}, Ranges.{IsCard, IsRecord, IsTroubleLine}, Sheet.{Sheet, sheet_text, IsSheet, IsReport}}
use Rattle.xbar_report.specs.{Text.{record_line, trouble_line, card_lines, count_lines, records_text, trouble_of, troubles_of}, declared.line.Counts.Counts}
use Rattle.xbar_report.specs.declared.line.{Line.TheVariants.{Record, Trouble}, TroubleLine.TroubleLine}
use Rattle.{xbar_report.proofs.{Reports.own_belongs, Sheets.{all_append, lines_of_text, sheet_range, texts_only}}, xbar_equip.specs.TextLines.lines}

-- lines that are the same, but for cards of records, are those of the same cards and counts
behind_same : (cs cs' : List TroubleLine) (n n' : Option Counts) → map bare_line (map Trouble cs' ++ lines_of_counts n') ≡ map Trouble cs ++ lines_of_counts n
    → (cs ≡ cs') × (n ≡ n')
behind_same [] [] None None e = (refl, refl)
behind_same [] [] None (Some b) e = absurd cc
behind_same [] [] (Some a) None e = absurd cc
behind_same [] [] (Some a) (Some b) e =
    let paths : a.paths ≡ b.paths = cc in
    let closed : a.closed ≡ b.closed = cc in
    (refl, λ i. Some (record { paths = paths i; closed = closed i }))
behind_same [] (t ∷ cs') None n' e = absurd cc
behind_same [] (t ∷ cs') (Some a) n' e = absurd cc
behind_same (t ∷ cs) [] n None e = absurd cc
behind_same (t ∷ cs) [] n (Some b) e = absurd cc
behind_same (t ∷ cs) (t' ∷ cs') n n' e =
    let rest : (cs ≡ cs') × (n ≡ n') = behind_same cs cs' n n' cc in
    let here : t' ≡ t = cc in
    let cards = rest.0 in
    (cc, rest.1)

-- and of the same records
lines_same : (rs rs' : List TheRecord) (cs cs' : List TroubleLine) (n n' : Option Counts)
    → map bare_line (map Record rs' ++ (map Trouble cs' ++ lines_of_counts n')) ≡ map Record rs ++ (map Trouble cs ++ lines_of_counts n)
    → (rs ≡ map bare_record rs') × (cs ≡ cs') × (n ≡ n')
lines_same [] [] cs cs' n n' e = let same = behind_same cs cs' n n' e in (refl, same.0, same.1)
lines_same [] (r ∷ rs') [] cs' None n' e = absurd cc
lines_same [] (r ∷ rs') [] cs' (Some a) n' e = absurd cc
lines_same [] (r ∷ rs') (t ∷ cs) cs' n n' e = absurd cc
lines_same (r ∷ rs) [] cs [] n None e = absurd cc
lines_same (r ∷ rs) [] cs [] n (Some b) e = absurd cc
lines_same (r ∷ rs) [] cs (t ∷ cs') n n' e = absurd cc
lines_same (r ∷ rs) (r' ∷ rs') cs cs' n n' e =
    let rest : (rs ≡ map bare_record rs') × (cs ≡ cs') × (n ≡ n') = lines_same rs rs' cs cs' n n' cc in
    let here : bare_record r' ≡ r = cc in
    let records = rest.0 in
    (cc, rest.1, rest.2)

pub regrouped_lines : (s : Sheet) → lines_of_sheet s ≡ map Record s.records ++ (map Trouble s.cards ++ lines_of_counts s.counts)
regrouped_lines s = append_assoc (map Record s.records) (map Trouble s.cards) (lines_of_counts s.counts)

-- what sheets show the same lines
pub record IsSameSheet (s s' : Sheet) : Type 0 where
  pub records : s.records ≡ map bare_record s'.records
  pub cards : s.cards ≡ s'.cards
  pub counts : s.counts ≡ s'.counts

same_sheet : (s s' : Sheet) → map bare_line (lines_of_sheet s') ≡ lines_of_sheet s → IsSameSheet s s'
same_sheet s s' e =
    let same = lines_same s.records s'.records s.cards s'.cards s.counts s'.counts (sym (ap (map bare_line) (regrouped_lines s')) ∙ e ∙ regrouped_lines s) in
    record { records = same.0; cards = same.1; counts = same.2 }

-- a text was read as the only sheet that has it, but for cards of records
pub only_sheet : (text : List ℕ) (s s' : Sheet) → IsReadAs text s → IsSheet s' → text ≡ sheet_text s' → IsSameSheet s s'
only_sheet text s s' read range is =
    same_sheet s s' (texts_only (lines text) (lines_of_sheet s) (lines_of_sheet s') read (sheet_range s' range) (ap lines is ∙ lines_of_text s' range))

-- a report's text is that of a sheet whose cards are those of the records
abbrev pub sheet_of : List TheRecord → Option Counts → Sheet
sheet_of rs counts = record { records = rs; cards = flat_map troubles_of rs; counts = counts }

cards_text : (rs : List TheRecord) → flat_map trouble_line (flat_map troubles_of rs) ≡ flat_map card_lines rs
cards_text [] = refl
cards_text (r ∷ rs) = flat_map-append trouble_line (troubles_of r) (flat_map troubles_of rs) ∙ ap (λ (more : List ℕ). card_lines r ++ more) (cards_text rs)

pub report_text_is : (rs : List TheRecord) (counts : Option Counts) → sheet_text (sheet_of rs counts) ≡ records_text rs counts
report_text_is rs counts = ap (λ (middle : List ℕ). flat_map record_line rs ++ middle ++ count_lines counts) (cards_text rs)

own_range : (r : TheRecord) (cards : List Card) → IsRecord r → AllByRecursion IsCard cards → AllByRecursion IsTroubleLine (map (trouble_of r) cards)
own_range r [] h h2 = tt
own_range r (card ∷ cards) h h2 = (record { turn = h.turn; job_no = h.job_no; card = h2.0 }, own_range r cards h h2.1)

cards_range : (rs : List TheRecord) → AllByRecursion IsRecord rs → AllByRecursion IsTroubleLine (flat_map troubles_of rs)
cards_range [] h = tt
cards_range (r ∷ rs) h = all_append IsTroubleLine (troubles_of r) (flat_map troubles_of rs) (own_range r r.reply.cards h.0 h.0.cards) (cards_range rs h.1)

pub report_range : (rs : List TheRecord) (counts : Option Counts) → IsReport rs counts → IsSheet (sheet_of rs counts)
report_range rs counts h = record { records = h.ranges; cards = cards_range rs h.ranges; counts = h.fits }

-- cards of later records

own_turns : (turn : ℕ) (r : TheRecord) (cards : List Card) → turn ≤ r.turn → AllByRecursion (λ t. turn ≤ t.turn) (map (trouble_of r) cards)
own_turns turn r [] h = tt
own_turns turn r (card ∷ cards) h = (h, own_turns turn r cards h)

lower : (low high : ℕ) (cards : List TroubleLine) → low ≤ high → AllByRecursion (λ t. high ≤ t.turn) cards → AllByRecursion (λ t. low ≤ t.turn) cards
lower low high [] h h2 = tt
lower low high (t ∷ cards) h h2 = (let here = h2.0 in omega (arith, here, h), lower low high cards h h2.1)

pub later_turns : (turn : ℕ) (rs : List TheRecord) → HaveTurns turn rs → AllByRecursion (λ t. turn ≤ t.turn) (flat_map troubles_of rs)
later_turns turn [] h = tt
later_turns turn (r ∷ rs) h =
    all_append (λ t. turn ≤ t.turn) (troubles_of r) (flat_map troubles_of rs) (own_turns turn r r.reply.cards (let e = h.0 in omega (arith, e)))
    (lower turn (turn + 1) (flat_map troubles_of rs) (omega arith) (later_turns (turn + 1) rs h.1))

-- the first card belongs to another record
abbrev pub BeginsOtherwise : TheRecord → List TroubleLine → Type 0
BeginsOtherwise r [] = Unit {0}
BeginsOtherwise r (t ∷ cards) = belongs r t ≡ false

pub otherwise : (turn : ℕ) (r : TheRecord) (cards : List TroubleLine) → r.turn ≡ turn → AllByRecursion (λ t. turn + 1 ≤ t.turn) cards → BeginsOtherwise r cards
otherwise turn r [] is later = tt
otherwise turn r (t ∷ cards) is later =
    ap (λ (b : Bool). b && t.job_no == r.job_no) (ne_eqb t.turn r.turn (λ e. let h = later.0 in omega (arith, e, is, h)))

pub own_step : (most : ℕ) (r : TheRecord) (t : TroubleLine) (cards : List TroubleLine) → belongs r t ≡ true
    → own_of (suc most) r (t ∷ cards) ≡ suc (own_of most r cards)
own_step most r t cards h = ap (λ (b : Bool). cond b (suc (own_of most r cards)) 0) h

own_stop : (most : ℕ) (r : TheRecord) (cards : List TroubleLine) → BeginsOtherwise r cards → own_of most r cards ≡ 0
own_stop zero r cards h = refl
own_stop (suc most) r [] h = refl
own_stop (suc most) r (t ∷ cards) h = ap (λ (b : Bool). cond b (suc (own_of most r cards)) 0) h

-- a record takes its own cards, and no more if another's follow
pub own_exact : (most : ℕ) (r : TheRecord) (own : List Card) (rest : List TroubleLine) → length own ≤ most → BeginsOtherwise r rest
    → own_of most r (map (trouble_of r) own ++ rest) ≡ length own
own_exact most r [] rest few h = own_stop most r rest h
own_exact zero r (card ∷ own) rest few h = absurd (omega arith)
own_exact (suc most) r (card ∷ own) rest few h =
    own_step most r (trouble_of r card) (map (trouble_of r) own ++ rest) (own_belongs r card) ∙ ap suc (own_exact most r own rest (omega arith) h)

cards_again : (r : TheRecord) (cards : List Card) → map (λ t. t.card) (map (trouble_of r) cards) ≡ cards
cards_again r [] = refl
cards_again r (card ∷ cards) = ap (λ (more : List Card). card ∷ more) (cards_again r cards)

-- records take their own cards, and none is left
pub own_dealt : (turn : ℕ) (rs : List TheRecord) → HaveTurns turn rs → AllByRecursion IsRecord rs
    → (dealt_records (map bare_record rs) (flat_map troubles_of rs) ≡ rs) × (left_of (map bare_record rs) (flat_map troubles_of rs) ≡ [])
unfolding dealt_records left_of
own_dealt turn [] h range = (refl, refl)
own_dealt turn (r ∷ rs) h range =
    let own = troubles_of r in
    let rest = flat_map troubles_of rs in
    let later = own_dealt (turn + 1) rs h.1 range.1 in
    let k : own_count_of (bare_record r) (own ++ rest) ≡ length r.reply.cards =
    own_exact 2 r r.reply.cards rest range.0.few (otherwise turn r rest h.0 (later_turns (turn + 1) rs h.1)) in
    let size : length own ≡ own_count_of (bare_record r) (own ++ rest) = length-map r.reply.cards (trouble_of r) ∙ sym k in
    let taken : take (own_count_of (bare_record r) (own ++ rest)) (own ++ rest) ≡ own = take_at own rest _ size in
    let gone : drop (own_count_of (bare_record r) (own ++ rest)) (own ++ rest) ≡ rest = drop_at own rest _ size in
    let first : with_cards (bare_record r) (take (own_count_of (bare_record r) (own ++ rest)) (own ++ rest)) ≡ r =
    ap (with_cards (bare_record r)) taken ∙ ap (λ (cards : List Card). record r { reply = record r.reply { cards = cards } }) (cards_again r r.reply.cards) in
    let more = ap (dealt_records (map bare_record rs)) gone ∙ later.0 in
    (cc, ap (left_of (map bare_record rs)) gone ∙ later.1)
