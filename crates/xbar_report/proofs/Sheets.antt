use Rattle.std.proofs.Common.{◌≡◌, ℕ, zero, suc, List, [], ◌∷◌, ◌++◌, length, map, take, refl, sym, ap, ◌∙◌, Option, Some, None, IfSome, flat_map, append-nil}
use Rattle.std.{specs.List.AllByRecursion, proofs.lemmas.{List.{length-map, Folds.flat_map-map}, Grind.flat_map-append}}
use Rattle.xbar_report.specs.{Bare.bare_line, Draft.{AreTextsOf, IsTextOf}, Line.{IsLine, line_text, lines_of_sheet, lines_of_counts}, Ranges.AreCounts}
use Rattle.xbar_report.specs.{Sheet.{Sheet, sheet_text, IsSheet}, Text.{record_line, trouble_line, count_lines}, declared.line.{Counts.Counts, Line.Line}}
use Rattle.{xbar_report.{specs.declared.line.Line.TheVariants.{Record, Trouble, Paths, Closed}, proofs.Lines.lines_of_lines}, xbar_equip.specs.TextLines.lines}

-- lists

pub all_append : {A : Type 0} (P : A → Type 0) (xs ys : List A) → AllByRecursion P xs → AllByRecursion P ys → AllByRecursion P (xs ++ ys)
all_append P [] ys h h2 = h2
all_append P (x ∷ xs) ys h h2 = (h.0, all_append P xs ys h.1 h2)

pub all_parts : {A : Type 0} (P : A → Type 0) (xs ys : List A) → AllByRecursion P (xs ++ ys) → AllByRecursion P xs × AllByRecursion P ys
all_parts P [] ys h = (tt, h)
all_parts P (x ∷ xs) ys h = let r = all_parts P xs ys h.1 in ((h.0, r.0), r.1)

pub all_take : {A : Type 0} (P : A → Type 0) (n : ℕ) (xs : List A) → AllByRecursion P xs → AllByRecursion P (take n xs)
all_take P zero xs h = tt
all_take P (suc n) [] h = tt
all_take P (suc n) (x ∷ xs) h = (h.0, all_take P n xs h.1)

all_map : {A B : Type 0} (P : B → Type 0) (f : A → B) (xs : List A) → AllByRecursion (λ x. P (f x)) xs → AllByRecursion P (map f xs)
all_map P f [] h = tt
all_map P f (x ∷ xs) h = (h.0, all_map P f xs h.1)

all_of_map : {A B : Type 0} (P : B → Type 0) (f : A → B) (xs : List A) → AllByRecursion P (map f xs) → AllByRecursion (λ x. P (f x)) xs
all_of_map P f [] h = tt
all_of_map P f (x ∷ xs) h = (h.0, all_of_map P f xs h.1)

-- the text of a sheet is that of its lines

counts_text : (counts : Option Counts) → flat_map line_text (lines_of_counts counts) ≡ count_lines counts
counts_text None = refl
counts_text (Some counts) = ap (λ (rest : List ℕ). line_text (Paths counts.paths) ++ rest) (append-nil (line_text (Closed counts.closed)))

pub sheet_text_is : (s : Sheet) → sheet_text s ≡ flat_map line_text (lines_of_sheet s)
sheet_text_is s =
    sym (flat_map-append line_text (map Record s.records ++ map Trouble s.cards) (lines_of_counts s.counts)
    ∙ ap (λ (front : List ℕ). front ++ flat_map line_text (lines_of_counts s.counts)) (flat_map-append line_text (map Record s.records) (map Trouble s.cards))
    ∙ ap (λ (front : List ℕ). (front ++ flat_map line_text (map Trouble s.cards)) ++ flat_map line_text (lines_of_counts s.counts))
    (flat_map-map line_text Record s.records)
    ∙ ap (λ (middle : List ℕ). (flat_map record_line s.records ++ middle) ++ flat_map line_text (lines_of_counts s.counts))
    (flat_map-map line_text Trouble s.cards)
    ∙ ap (λ (rest : List ℕ). (flat_map record_line s.records ++ flat_map trouble_line s.cards) ++ rest) (counts_text s.counts))

counts_range : (counts : Option Counts) → IfSome counts AreCounts → AllByRecursion IsLine (lines_of_counts counts)
counts_range None h = tt
counts_range (Some counts) h = (h.paths, (h.closed, tt))

range_of_counts : (counts : Option Counts) → AllByRecursion IsLine (lines_of_counts counts) → IfSome counts AreCounts
range_of_counts None h = tt
range_of_counts (Some counts) h = record { paths = h.0; closed = h.1.0 }

-- a sheet is in range exactly if its lines are
pub sheet_range : (s : Sheet) → IsSheet s → AllByRecursion IsLine (lines_of_sheet s)
sheet_range s h =
    all_append IsLine (map Record s.records ++ map Trouble s.cards) (lines_of_counts s.counts)
    (all_append IsLine (map Record s.records) (map Trouble s.cards) (all_map IsLine Record s.records h.records) (all_map IsLine Trouble s.cards h.cards))
    (counts_range s.counts h.counts)

pub range_of_sheet : (s : Sheet) → AllByRecursion IsLine (lines_of_sheet s) → IsSheet s
range_of_sheet s h =
    let (front, counts) = all_parts IsLine (map Record s.records ++ map Trouble s.cards) (lines_of_counts s.counts) h in
    let (records, cards) = all_parts IsLine (map Record s.records) (map Trouble s.cards) front in
    record { records = all_of_map IsLine Record s.records records; cards = all_of_map IsLine Trouble s.cards cards; counts = range_of_counts s.counts counts }

-- so it has these lines
pub lines_of_text : (s : Sheet) → IsSheet s → lines (sheet_text s) ≡ map line_text (lines_of_sheet s)
lines_of_text s h = ap lines (sheet_text_is s) ∙ lines_of_lines (lines_of_sheet s) (sheet_range s h)

-- texts of lines

pub texts_range : (texts : List (List ℕ)) (ls : List Line) → AreTextsOf texts ls → AllByRecursion IsLine ls
texts_range [] [] h = tt
texts_range [] (l ∷ ls) h = absurd h
texts_range (t ∷ texts) [] h = absurd h
texts_range (t ∷ texts) (l ∷ ls) h = (h.0.range, texts_range texts ls h.1)

pub texts_are : (texts : List (List ℕ)) (ls : List Line) → AreTextsOf texts ls → texts ≡ map line_text ls
texts_are [] [] h = refl
texts_are [] (l ∷ ls) h = absurd h
texts_are (t ∷ texts) [] h = absurd h
texts_are (t ∷ texts) (l ∷ ls) h = let e = h.0.text_is in let e2 = texts_are texts ls h.1 in cc

pub texts_more : (texts : List (List ℕ)) (ls : List Line) (t : List ℕ) (l : Line) → AreTextsOf texts ls → IsTextOf t l
    → AreTextsOf (texts ++ t ∷ []) (ls ++ l ∷ [])
texts_more [] [] t l h h2 = (h2, tt)
texts_more [] (x ∷ ls) t l h h2 = absurd h
texts_more (x ∷ texts) [] t l h h2 = absurd h
texts_more (x ∷ texts) (y ∷ ls) t l h h2 = (h.0, texts_more texts ls t l h.1 h2)

-- other lines with these texts are these, but for cards that lines of records don't show
pub texts_only : (texts : List (List ℕ)) (ls others : List Line) → AreTextsOf texts ls → AllByRecursion IsLine others → texts ≡ map line_text others
    → map bare_line others ≡ ls
texts_only [] [] [] h r e = refl
texts_only [] [] (o ∷ others) h r e = cc
texts_only [] (l ∷ ls) others h r e = absurd h
texts_only (t ∷ texts) [] others h r e = absurd h
texts_only (t ∷ texts) (l ∷ ls) [] h r e = cc
texts_only (t ∷ texts) (l ∷ ls) (o ∷ others) h r e =
    let first : bare_line o ≡ l = h.0.only o r.0 cc in
    let later : map bare_line others ≡ ls = texts_only texts ls others h.1 r.1 cc in
    cc

pub texts_count : (texts : List (List ℕ)) (ls : List Line) → AreTextsOf texts ls → length texts ≡ length ls
texts_count texts ls h = ap length (texts_are texts ls h) ∙ length-map ls line_text
