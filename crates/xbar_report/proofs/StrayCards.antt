use Rattle.std.proofs.Common.{◌≡◌, ◌<◌, ◌≤◌, ◌+◌, ◌-◌, ◌⊎◌, ℕ, zero, suc, true, List, [], ◌∷◌, ◌++◌, length, map, take, drop, inl, inr, refl, sym, ap, subst}
use Rattle.std.proofs.Common.{◌∙◌, arith, Option, Some, None, flat_map, length-append, length-take, length-drop, take_at, take-append-drop, take-take, take_all}
use Rattle.std.{specs.List.AllByRecursion, proofs.lemmas.List.{length-map, map-append, take-map, take-append-le, append_cancel_left}}
use Rattle.xbar_office.specs.{Legal.HaveTurns, declared.reply.{Card.Card, Record.{Record as TheRecord}}}
use Rattle.xbar_report.specs.{Bare.{bare_line, bare_record}, Dealt.{belongs, own_of, own_count_of, dealt_records, left_of}, Draft.{AreTextsOf, IsReadAs}}
use Rattle.xbar_report.specs.{Line.{IsLine, line_text, lines_of_sheet, lines_of_counts}, Ranges.IsRecord, Reading.{HaveSameLines, IsFirstStrayLine}}
use Rattle.xbar_report.specs.{Sheet.{Sheet, IsReport, IsReportText}, Text.{records_text, trouble_of, troubles_of}, declared.line.{Counts.Counts, Line.Line}}
use Rattle.xbar_report.{specs.declared.line.{Line.TheVariants.{Record, Trouble, Paths, Closed}, TroubleLine.TroubleLine}, proofs.Deals.length-dealt}
use Rattle.xbar_report.proofs.{Reports.{dealt_lines, own_belongs, own_le, taken_and_left}, Sheets.{all_take, lines_of_text, sheet_range, texts_are, texts_only}}
use Rattle.xbar_report.proofs.Uniques.{BeginsOtherwise, later_turns, otherwise, own_exact, own_step, regrouped_lines, report_range, report_text_is, sheet_of}
use Rattle.xbar_equip.specs.TextLines.{lines}

-- lists

take_past : {A : Type 0} (xs ys : List A) (k n : ℕ) → n ≡ length xs + k → take n (xs ++ ys) ≡ xs ++ take k ys
take_past [] ys k n e = let same : n ≡ k = omega (arith, e) in ap (λ (m : ℕ). take m ys) same
take_past (x ∷ xs) ys k zero e = absurd (omega (arith, e))
take_past {A} (x ∷ xs) ys k (suc n) e = ap (λ (more : List A). x ∷ more) (take_past xs ys k n (omega (arith, e)))

texts_take : (n : ℕ) (texts : List (List ℕ)) (ls : List Line) → AreTextsOf texts ls → AreTextsOf (take n texts) (take n ls)
texts_take zero texts ls h = tt
texts_take (suc n) [] [] h = tt
texts_take (suc n) [] (l ∷ ls) h = absurd h
texts_take (suc n) (t ∷ texts) [] h = absurd h
texts_take (suc n) (t ∷ texts) (l ∷ ls) h = (h.0, texts_take n texts ls h.1)

-- how many cards are taken

pub left_le : (rs : List TheRecord) (cards : List TroubleLine) → length (left_of rs cards) ≤ length cards
unfolding left_of
left_le [] cards = omega arith
left_le (r ∷ rs) cards =
    let less = left_le rs (drop (own_count_of r cards) cards) in
    let size = length-drop (own_count_of r cards) cards in
    omega (arith, less, size)

-- cards that all belong to a record are taken by it
own_least : (most n : ℕ) (r : TheRecord) (own : List Card) (rest cards : List TroubleLine) → n ≤ most → n ≤ length own → n ≤ length cards
    → take n (map (trouble_of r) own ++ rest) ≡ take n cards → n ≤ own_of most r cards
own_least most zero r own rest cards h h2 h3 e = omega arith
own_least zero (suc n) r own rest cards h h2 h3 e = absurd (omega arith)
own_least (suc most) (suc n) r [] rest cards h h2 h3 e = absurd (omega arith)
own_least (suc most) (suc n) r (card ∷ own) rest [] h h2 h3 e = absurd (omega arith)
own_least (suc most) (suc n) r (card ∷ own) rest (t ∷ cards) h h2 h3 e =
    let first : trouble_of r card ≡ t = cc in
    let mine : belongs r t ≡ true = sym (ap (belongs r) first) ∙ own_belongs r card in
    let later = own_least most n r own rest cards (omega arith) (omega arith) (omega arith) cc in
    let taken = own_step most r t cards mine in
    omega (arith, later, taken)

-- the first of two equal fronts
head_same : (a n : ℕ) (own more cards : List TroubleLine) → length own ≡ a → own ++ more ≡ take n cards → a ≤ n → take a cards ≡ own
head_same a n own more cards size e le =
    sym (take-take a n cards le) ∙ ap (take a) (sym e) ∙ take_at own more a size

otherwise_too : (r : TheRecord) (n : ℕ) (xs ys : List TroubleLine) → BeginsOtherwise r xs → take (suc n) xs ≡ take (suc n) ys → BeginsOtherwise r ys
otherwise_too r n [] [] h e = tt
otherwise_too r n [] (y ∷ ys) h e = cc
otherwise_too r n (x ∷ xs) [] h e = tt
otherwise_too r n (x ∷ xs) (y ∷ ys) h e = let first : x ≡ y = cc in sym (ap (belongs r) first) ∙ h

taken_none : (n : ℕ) → length (take n (flat_map troubles_of [])) ≡ 0
taken_none zero = refl
taken_none (suc n) = refl

split_le : (m n : ℕ) → (m ≤ n) ⊎ (n < m)
split_le zero n = inl (omega arith)
split_le (suc m) zero = inr (omega arith)
split_le (suc m) (suc n) = elim (split_le m n) [ inl h ↦ inl (omega arith) | inr h ↦ inr (omega arith) ]

-- if cards begin with a record's own and go on with others', the record takes its own
past_own : (turn n : ℕ) (r : TheRecord) (rs : List TheRecord) (cards : List TroubleLine) → HaveTurns turn (r ∷ rs) → AllByRecursion IsRecord (r ∷ rs)
    → n ≤ length cards
    → length r.reply.cards < n → take n (troubles_of r ++ flat_map troubles_of rs) ≡ take n cards
    → ((m : ℕ) (cs : List TroubleLine) → m ≤ length cs → take m (flat_map troubles_of rs) ≡ take m cs
    → m + length (left_of (map bare_record rs) cs) ≤ length cs)
    → n + length (left_of (map bare_record rs) (drop (own_count_of (bare_record r) cards) cards)) ≤ length cards
past_own turn n r rs cards h range within many e later =
    let own = troubles_of r in
    let rest = flat_map troubles_of rs in
    let a = length r.reply.cards in
    let size : length own ≡ a = length-map r.reply.cards (trouble_of r) in
    let m = n - a in
    let sum : n ≡ length own + m = omega (arith, size, many) in
    let front : take n (own ++ rest) ≡ own ++ take m rest = take_past own rest m n sum in
    let cs = drop a cards in
    let head : take a cards ≡ own = head_same a n own (take m rest) cards size (sym front ∙ e) (omega (arith, many)) in
    let split : cards ≡ own ++ cs = sym (take-append-drop a cards) ∙ ap (λ (f : List TroubleLine). f ++ cs) head in
    let back : take n cards ≡ own ++ take m cs = ap (take n) split ∙ take_past own cs m n sum in
    let same : take m rest ≡ take m cs = append_cancel_left own (take m rest) (take m cs) (sym front ∙ e ∙ back) in
    let other : BeginsOtherwise r rest = otherwise turn r rest h.0 (later_turns (turn + 1) rs h.1) in
    let step : suc (m - 1) ≡ m = omega (arith, sum, size, many) in
    let begins : BeginsOtherwise r cs = otherwise_too r (m - 1) rest cs other (subst (λ (k : ℕ). take k rest ≡ take k cs) (sym step) same) in
    let k : own_count_of (bare_record r) cards ≡ a = ap (own_count_of (bare_record r)) split ∙ own_exact 2 r r.reply.cards cs range.0.few begins in
    let gone : drop (own_count_of (bare_record r) cards) cards ≡ cs = ap (λ (j : ℕ). drop j cards) k in
    let cs_size = length-drop a cards in
    let less = later m cs (omega (arith, cs_size, within, sum, size)) same in
    let left : length (left_of (map bare_record rs) (drop (own_count_of (bare_record r) cards) cards)) ≡ length (left_of (map bare_record rs) cs) =
    ap (λ (l : List TroubleLine). length (left_of (map bare_record rs) l)) gone in
    omega (arith, less, left, cs_size, within, sum, size, many)

-- if the first `n` cards are those of the records, the records take at least `n`
pub taken_most : (turn n : ℕ) (rs : List TheRecord) (cards : List TroubleLine) → HaveTurns turn rs → AllByRecursion IsRecord rs → n ≤ length cards
    → take n (flat_map troubles_of rs) ≡ take n cards → n + length (left_of (map bare_record rs) cards) ≤ length cards
unfolding left_of
taken_most turn n [] cards h range within e =
    let short = ap length e in
    let a = length-take n cards in
    let none = taken_none n in
    omega (arith, short, a, none, within)
taken_most turn n (r ∷ rs) cards h range within e = elim (split_le n (length r.reply.cards)) [
  | inl few ↦
      let k = own_least 2 n r r.reply.cards (flat_map troubles_of rs) cards (omega (arith, few, range.0.few)) few within e in
      let less = left_le (map bare_record rs) (drop (own_count_of (bare_record r) cards) cards) in
      let size = length-drop (own_count_of (bare_record r) cards) cards in
      let le = own_le 2 (bare_record r) cards in
      omega (arith, k, less, size, le.1)
  | inr many ↦ past_own turn n r rs cards h range within many e
      (λ (m : ℕ) (cs : List TroubleLine) (w : m ≤ length cs) (same : take m (flat_map troubles_of rs) ≡ take m cs). taken_most (turn + 1) m rs cs h.1 range.1 w
      same)
]

-- which lines come first

abbrev IsNoRecord : List Line → Type 0
IsNoRecord [] = Unit {0}
IsNoRecord (Record r ∷ ls) = ⊥
IsNoRecord (Trouble t ∷ ls) = Unit {0}
IsNoRecord (Paths n ∷ ls) = Unit {0}
IsNoRecord (Closed n ∷ ls) = Unit {0}

abbrev IsNoCard : List Line → Type 0
IsNoCard [] = Unit {0}
IsNoCard (Record r ∷ ls) = Unit {0}
IsNoCard (Trouble t ∷ ls) = ⊥
IsNoCard (Paths n ∷ ls) = Unit {0}
IsNoCard (Closed n ∷ ls) = Unit {0}

counts_are_no_card : (counts : Option Counts) → IsNoCard (lines_of_counts counts)
counts_are_no_card None = tt
counts_are_no_card (Some counts) = tt

cards_are_no_record : (cs : List TroubleLine) (counts : Option Counts) → IsNoRecord (map Trouble cs ++ lines_of_counts counts)
cards_are_no_record [] None = tt
cards_are_no_record [] (Some counts) = tt
cards_are_no_record (c ∷ cs) counts = tt

not_first : (n : ℕ) (ls : List Line) (r : TheRecord) (more : List Line) → IsNoRecord ls → map bare_line (take (suc n) ls) ≡ Record r ∷ more → ⊥
not_first n [] r more h e = cc
not_first n (Record x ∷ ls) r more h e = h
not_first n (Trouble x ∷ ls) r more h e = cc
not_first n (Paths x ∷ ls) r more h e = cc
not_first n (Closed x ∷ ls) r more h e = cc

no_card_first : (n : ℕ) (ls : List Line) (t : TroubleLine) (more : List Line) → IsNoCard ls → map bare_line (take (suc n) ls) ≡ Trouble t ∷ more → ⊥
no_card_first n [] t more h e = cc
no_card_first n (Record x ∷ ls) t more h e = cc
no_card_first n (Trouble x ∷ ls) t more h e = h
no_card_first n (Paths x ∷ ls) t more h e = cc
no_card_first n (Closed x ∷ ls) t more h e = cc

-- if the first lines are records and then at least one card, these are all records
first_records : (rs rs' : List TheRecord) (ls : List Line) (z : TroubleLine) (zs : List TroubleLine) (n : ℕ) → IsNoRecord ls → n ≡ length rs + length (z ∷ zs)
    → map bare_line (take n (map Record rs' ++ ls)) ≡ map Record rs ++ map Trouble (z ∷ zs)
    → (rs ≡ map bare_record rs') × (map bare_line (take (length (z ∷ zs)) ls) ≡ map Trouble (z ∷ zs))
first_records rs rs' ls z zs zero h size e = absurd (omega (arith, size))
first_records [] [] ls z zs (suc n) h size e =
    let same : suc n ≡ length (z ∷ zs) = omega (arith, size) in
    (refl, subst (λ (k : ℕ). map bare_line (take k ls) ≡ map Trouble (z ∷ zs)) same e)
first_records [] (x ∷ rs') ls z zs (suc n) h size e = cc
first_records (r ∷ rs) [] ls z zs (suc n) h size e = absurd (not_first n ls r (map Record rs ++ map Trouble (z ∷ zs)) h e)
first_records (r ∷ rs) (x ∷ rs') ls z zs (suc n) h size e =
    let first : r ≡ bare_record x = cc in
    let later = first_records rs rs' ls z zs n h (omega (arith, size)) cc in
    let more = later.0 in
    (cc, later.1)

-- and if they are cards, they are the first cards
first_cards : (cs : List TroubleLine) (ls : List Line) (zs : List TroubleLine) → IsNoCard ls
    → map bare_line (take (length zs) (map Trouble cs ++ ls)) ≡ map Trouble zs → take (length zs) cs ≡ zs
first_cards cs ls [] h e = refl
first_cards [] ls (z ∷ zs) h e = absurd (no_card_first (length zs) ls z (map Trouble zs) h e)
first_cards (c ∷ cs) ls (z ∷ zs) h e =
    let first : c ≡ z = cc in
    let later : take (length zs) cs ≡ zs = first_cards cs ls zs h cc in
    cc

-- the text of a sheet, and its records without their cards

record_texts : (rs rs' : List TheRecord) → map bare_record rs ≡ map bare_record rs' → map line_text (map Record rs) ≡ map line_text (map Record rs')
record_texts [] [] e = refl
record_texts [] (x ∷ rs') e = cc
record_texts (r ∷ rs) [] e = cc
record_texts (r ∷ rs) (x ∷ rs') e =
    let first : bare_record r ≡ bare_record x = cc in
    let line : line_text (Record r) ≡ line_text (Record x) = ap (λ (y : TheRecord). line_text (Record y)) first in
    let later = record_texts rs rs' cc in
    cc

-- the first lines of a sheet, up to its first `k` cards
front_lines : (s : Sheet) (k n : ℕ) → k ≤ length s.cards → n ≡ length s.records + k
    → take n (lines_of_sheet s) ≡ map Record s.records ++ map Trouble (take k s.cards)
front_lines s k n within size =
    let records = length-map s.records Record in
    let cards = length-map s.cards Trouble in
    ap (take n) (regrouped_lines s) ∙ take_past (map Record s.records) (map Trouble s.cards ++ lines_of_counts s.counts) k n (omega (arith, size, records))
    ∙ ap (λ (more : List Line). map Record s.records ++ more)
    (take-append-le k (map Trouble s.cards) (lines_of_counts s.counts) (omega (arith, within, cards)) ∙ take-map Trouble k s.cards)

report_cut : (s : Sheet) (rs : List TheRecord) (counts : Option Counts) (k n : ℕ) → k < length s.cards → n ≡ length s.records + (k + 1)
    → (zs : List TroubleLine) → zs ≡ take (k + 1) s.cards
    → map bare_line (take n (map Record rs ++ (map Trouble (flat_map troubles_of rs) ++ lines_of_counts counts))) ≡ map Record s.records ++ map Trouble zs
    → (s.records ≡ map bare_record rs) × (take (k + 1) (flat_map troubles_of rs) ≡ zs)
report_cut s rs counts k n within size [] same e = absurd (let short = ap length same in let a = length-take (k + 1) s.cards in omega (arith, short, a, within))
report_cut s rs counts k n within size (z ∷ zs) same e =
    let short = ap length same in
    let a = length-take (k + 1) s.cards in
    let count : length (z ∷ zs) ≡ k + 1 = omega (arith, short, a, within) in
    let cards = flat_map troubles_of rs in
    let h = first_records s.records rs (map Trouble cards ++ lines_of_counts counts) z zs n (cards_are_no_record cards counts) (omega (arith, size, count)) e in
    (h.0, ap (λ (j : ℕ). take j cards) (sym count) ∙ first_cards cards (lines_of_counts counts) (z ∷ zs) (counts_are_no_card counts) h.1)

-- a report that has the lines up to a card has the cards up to that card
report_front : (text : List ℕ) (s : Sheet) (rs : List TheRecord) (counts : Option Counts) (k n : ℕ) → IsReadAs text s → IsReport rs counts → k < length s.cards
    → n ≡ length s.records + (k + 1) → HaveSameLines n (records_text rs counts) text
    → (s.records ≡ map bare_record rs) × (take (k + 1) (flat_map troubles_of rs) ≡ take (k + 1) s.cards)
report_front text s rs counts k n read report within size same =
    let theirs = sheet_of rs counts in
    let range = report_range rs counts report in
    let all = lines_of_sheet theirs in
    let ours = lines_of_sheet s in
    let text_is : lines (records_text rs counts) ≡ map line_text all = ap lines (sym (report_text_is rs counts)) ∙ lines_of_text theirs range in
    let fronts : take n (lines text) ≡ map line_text (take n all) = sym same ∙ ap (take n) text_is ∙ take-map line_text n all in
    let bare =
    texts_only (take n (lines text)) (take n ours) (take n all) (texts_take n (lines text) ours read) (all_take IsLine n all (sheet_range theirs range))
    fronts in
    let cut = front_lines s (k + 1) n (omega arith) size in
    report_cut s rs counts k n within size (take (k + 1) s.cards) refl
    (sym (ap (λ (ls : List Line). map bare_line (take n ls)) (regrouped_lines theirs)) ∙ bare ∙ cut)

here_card : (text : List ℕ) (s : Sheet) (number : ℕ) → IsReadAs text s → 0 < length (left_of s.records s.cards)
    → number ≡ length s.records + (length s.cards - length (left_of s.records s.cards)) + 1
    → (other : List ℕ) → IsReportText other → HaveSameLines number other text → ⊥
here_card text s number read some size other (rs, counts, report, is) same =
    let left = length (left_of s.records s.cards) in
    let le = left_le s.records s.cards in
    let k = length s.cards - left in
    let within : k < length s.cards = omega (arith, le, some) in
    let front = report_front text s rs counts k number read report within (omega (arith, size)) (subst (λ (t : List ℕ). HaveSameLines number t text) is same) in
    let most = taken_most 0 (k + 1) rs s.cards report.turns report.ranges (omega (arith, within)) front.1 in
    let left_is : length (left_of (map bare_record rs) s.cards) ≡ left = ap (λ (l : List TheRecord). length (left_of l s.cards)) (sym front.0) in
    omega (arith, most, left_is, le)

before_card : (text : List ℕ) (s : Sheet) (number : ℕ) → IsReadAs text s → 0 < length (left_of s.records s.cards)
    → number ≡ length s.records + (length s.cards - length (left_of s.records s.cards)) + 1
    → IsReport (dealt_records s.records s.cards) s.counts → HaveSameLines (number - 1) (records_text (dealt_records s.records s.cards) s.counts) text
before_card text s number read some size report =
    let rs = dealt_records s.records s.cards in
    let theirs = sheet_of rs s.counts in
    let taken = flat_map troubles_of rs in
    let le = left_le s.records s.cards in
    let whole = taken_and_left s.records s.cards in
    let sum = ap length whole in
    let parts = length-append taken (left_of s.records s.cards) in
    let k = length taken in
    let n = number - 1 in
    let records = length-dealt s.records s.cards in
    let n_is : n ≡ length s.records + k = omega (arith, size, sum, parts) in
    let k_le : k ≤ length s.cards = omega (arith, sum, parts) in
    let first : take k s.cards ≡ taken = ap (take k) (sym whole) ∙ take_at taken (left_of s.records s.cards) k refl in
    let ours : take n (lines text) ≡ map line_text (map Record s.records ++ map Trouble taken) =
    ap (take n) (texts_are (lines text) (lines_of_sheet s) read) ∙ take-map line_text n (lines_of_sheet s)
    ∙ ap (map line_text) (front_lines s k n k_le n_is ∙ ap (λ (cs : List TroubleLine). map Record s.records ++ map Trouble cs) first) in
    let them : take n (lines (records_text rs s.counts)) ≡ map line_text (map Record rs ++ map Trouble taken) =
    ap (take n) (ap lines (sym (report_text_is rs s.counts)) ∙ lines_of_text theirs (report_range rs s.counts report))
    ∙ take-map line_text n (lines_of_sheet theirs)
    ∙ ap (map line_text) (front_lines theirs k n (omega arith) (omega (arith, n_is, records))
    ∙ ap (λ (cs : List TroubleLine). map Record rs ++ map Trouble cs) (take_all k taken (omega arith))) in
    let joined : map line_text (map Record rs ++ map Trouble taken) ≡ map line_text (map Record s.records ++ map Trouble taken) =
    map-append line_text (map Record rs) (map Trouble taken)
    ∙ ap (λ (front : List (List ℕ)). front ++ map line_text (map Trouble taken)) (record_texts rs s.records (dealt_lines s.records s.cards))
    ∙ sym (map-append line_text (map Record s.records) (map Trouble taken)) in
    them ∙ joined ∙ sym ours

-- the first card of a text that no record takes is the text's first stray line
pub stray_card : (text : List ℕ) (s : Sheet) (number : ℕ) → IsReadAs text s → HaveTurns 0 s.records → AllByRecursion IsRecord s.records
    → 0 < length (left_of s.records s.cards) → number ≡ length s.records + (length s.cards - length (left_of s.records s.cards)) + 1
    → IsReport (dealt_records s.records s.cards) s.counts → IsFirstStrayLine IsReportText text number
stray_card text s number read turns range some size report = record {
  before = (
    records_text (dealt_records s.records s.cards) s.counts,
    (dealt_records s.records s.cards, s.counts, report, refl),
    before_card text s number read some size report,
  );
  here = λ other h same. here_card text s number read some size other h same;
}
