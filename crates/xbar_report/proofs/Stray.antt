use Rattle.std.proofs.Common.{◌≡◌, ◌<◌, ◌≤◌, ◌+◌, ◌-◌, ℕ, List, [], ◌∷◌, ◌++◌, length, map, take, refl, sym, ap, subst, ◌∙◌, ◌⊎◌, ◌≢◌, inl, inr, arith}
use Rattle.std.proofs.Common.{append_assoc, Option, Some, None, append-nil, length-append, length-take, take_at, take_all}
use Rattle.std.{specs.List.AllByRecursion, proofs.lemmas.List.{length-map, map-append, take-map}}
use Rattle.{xbar_office.specs.declared.reply.Record.{Record as TheRecord}, xbar_report.specs.Draft.{AreTextsOf, IsReadAs, IsTextOf, stage_behind, tally_lines}}
use Rattle.xbar_report.specs.Line.{IsLine, line_text, lines_of_counts, lines_of_sheet, next_stage, Stage, AtRecords, AtPaths}
use Rattle.xbar_report.specs.{Reading.{HaveSameLines, IsFirstStrayLine}, Sheet.{Sheet, sheet_text, IsSheetText}, declared.line.{Counts.Counts, Line.Line}}
use Rattle.xbar_report.specs.declared.{line.{Line.TheVariants.{Record, Trouble, Closed}, TroubleLine.TroubleLine}, reading.Tally.{Tally, TheVariants.Missing}}
use Rattle.xbar_report.{specs.declared.reading.Tally.TheVariants.{Begun, Whole}, proofs.Order.{next-bare, stage_after, stage_after-append, stage_after-take}}
use Rattle.xbar_report.proofs.{Order.{stage_after-bare, stage_of_lines, stage_of_sheet}, Sheets.{all_append, all_parts, all_take, lines_of_text, sheet_range}}
use Rattle.xbar_report.proofs.{Sheets.{range_of_sheet, texts_range, texts_are, texts_only, texts_more, texts_count}, Lines.line_text_whole, Splits.has_byte}
use Rattle.xbar_equip.{specs.TextLines.{IsWholeLine, Lacks, lines}, proofs.WholeLines.{lines_of_nothing, lines_of_rest, whole_line_first}}

-- a list whose image ends in y ends in what gives y
last_of_map : {A B : Type 0} (f : A → B) (xs : List A) (ys : List B) (y : B) → map f xs ≡ ys ++ y ∷ []
    → (front : List A) × (x : A) × (xs ≡ front ++ x ∷ []) × (map f front ≡ ys) × (f x ≡ y)
last_of_map f [] [] y e = cc
last_of_map f [] (z ∷ ys) y e = cc
last_of_map f (x ∷ []) [] y e = ([], x, refl, refl, cc)
last_of_map f (x ∷ x2 ∷ xs) [] y e = absurd (cc)
last_of_map f (x ∷ xs) (z ∷ ys) y e =
    let (front, last, split, before, here) = last_of_map f xs ys y cc in
    let first : f x ≡ z = cc in
    (x ∷ front, last, cc, cc, here)

-- a sheet with the lines of records, cards and counts, the last of which may still be missing
abbrev counts_with : Tally → Option Counts
counts_with Missing = None
counts_with (Begun paths) = Some (record { paths = paths; closed = 0 })
counts_with (Whole counts) = Some counts

abbrev sheet_with : List TheRecord → List TroubleLine → Tally → Sheet
sheet_with rs cs tally = record { records = rs; cards = cs; counts = counts_with tally }

abbrev missing_line : Tally → List Line
missing_line Missing = []
missing_line (Begun paths) = Closed 0 ∷ []
missing_line (Whole counts) = []

counts_split : (tally : Tally) → lines_of_counts (counts_with tally) ≡ tally_lines tally ++ missing_line tally
counts_split Missing = refl
counts_split (Begun paths) = refl
counts_split (Whole counts) = refl

missing_range : (tally : Tally) → AllByRecursion IsLine (missing_line tally)
missing_range Missing = tt
missing_range (Begun paths) = (omega arith, tt)
missing_range (Whole counts) = tt

-- the lines of a draft
abbrev pub lines_so_far : List TheRecord → List TroubleLine → Tally → List Line
lines_so_far rs cs tally = map Record rs ++ map Trouble cs ++ tally_lines tally

sheet_split : (rs : List TheRecord) (cs : List TroubleLine) (tally : Tally)
    → lines_of_sheet (sheet_with rs cs tally) ≡ lines_so_far rs cs tally ++ missing_line tally
sheet_split rs cs tally =
    ap (λ (counts : List Line). (map Record rs ++ map Trouble cs) ++ counts) (counts_split tally)
    ∙ sym (append_assoc (map Record rs ++ map Trouble cs) (tally_lines tally) (missing_line tally))

-- some sheet's text begins with the lines that were read
begun_text : (text : List ℕ) (done more : List (List ℕ)) (rs : List TheRecord) (cs : List TroubleLine) (tally : Tally) (number : ℕ) → lines text ≡ done ++ more
    → AreTextsOf done (lines_so_far rs cs tally) → number ≡ length (lines_so_far rs cs tally) + 1
    → (other : List ℕ) × IsSheetText other × HaveSameLines (number - 1) other text
begun_text text done more rs cs tally number split read counted =
    let ls = lines_so_far rs cs tally in
    let s = sheet_with rs cs tally in
    let in_range : AllByRecursion IsLine (lines_of_sheet s) =
    subst (AllByRecursion IsLine) (sym (sheet_split rs cs tally))
    (all_append IsLine ls (missing_line tally) (texts_range done ls read) (missing_range tally)) in
    let range = range_of_sheet s in_range in
    let k : number - 1 ≡ length ls = omega (arith, counted) in
    let count = texts_count done ls read in
    let theirs : lines (sheet_text s) ≡ done ++ map line_text (missing_line tally) =
    lines_of_text s range ∙ ap (map line_text) (sheet_split rs cs tally) ∙ map-append line_text ls (missing_line tally)
    ∙ ap (λ (front : List (List ℕ)). front ++ map line_text (missing_line tally)) (sym (texts_are done ls read)) in
    let same : take (number - 1) (lines (sheet_text s)) ≡ take (number - 1) (lines text) =
    ap (take (number - 1)) theirs ∙ take_at done (map line_text (missing_line tally)) (number - 1) (count ∙ sym k)
    ∙ sym (ap (take (number - 1)) split ∙ take_at done more (number - 1) (count ∙ sym k)) in
    (sheet_text s, (s, range, refl), same)

-- the first lines of a text, up to the rest, were read as these; the next has this number
pub record IsReadSoFar (text rest : List ℕ) (number : ℕ) (ls : List Line) : Type 0 where
  pub done : List (List ℕ)
  pub split : lines text ≡ done ++ lines rest
  pub read : AreTextsOf done ls
  pub counted : number ≡ length ls + 1
  pub fits : number + length rest ≤ length text + 1

pub record_of_start : (text : List ℕ) → IsReadSoFar text text 1 []
record_of_start text = record { done = []; split = refl; read = tt; counted = refl; fits = omega arith }

append_move : {A : Type 0} (xs : List A) (y : A) (zs : List A) → xs ++ y ∷ zs ≡ (xs ++ y ∷ []) ++ zs
append_move xs y zs = sym (append_assoc xs (y ∷ []) zs)

whole_some : (line : List ℕ) → IsWholeLine line → 0 < length line
whole_some line w =
    let e = ap length w.line_is in
    let e2 = length-append w.front (10 ∷ []) in
    omega (arith, e, e2)

-- one more line was read
pub line_more : (text rest line behind : List ℕ) (number : ℕ) (ls : List Line) (l : Line) → IsReadSoFar text rest number ls
    → rest ≡ line ++ behind → IsWholeLine line → IsTextOf line l → IsReadSoFar text behind (number + 1) (ls ++ l ∷ [])
line_more text rest line behind number ls l so split whole is =
    record {
      done = so.done ++ line ∷ [];
      split =
          so.split ∙ ap (λ (r : List (List ℕ)). so.done ++ r) (ap lines split ∙ whole_line_first line behind whole) ∙ append_move so.done line (lines behind);
      read = texts_more so.done ls line l so.read is;
      counted = let e = length-append ls (l ∷ []) in let c = so.counted in omega (arith, e, c);
      fits =
          let e = ap length split in
          let e2 = length-append line behind in
          let some : 0 < length line = whole_some line whole in
          let f = so.fits in
          omega (arith, e, e2, some, f);
    }

-- no sheet's text continues with a line that may not come, or with a text that is no line's
stray_line : (text line : List ℕ) (more done : List (List ℕ)) (ls : List Line) (stage : Stage) → lines text ≡ done ++ line ∷ more → AreTextsOf done ls
    → stage_after (Some AtRecords) ls ≡ Some stage → ((o : Line) → IsLine o → line ≡ line_text o → next_stage stage o ≡ None)
    → (other : List ℕ) → IsSheetText other → ¬ HaveSameLines (length ls + 1) other text
stray_line text line more done ls stage split read at refused other (s, range, is) same =
    let n = length ls + 1 in
    let all = lines_of_sheet s in
    let ours : take n (lines text) ≡ done ++ line ∷ [] =
    ap (take n) (split ∙ append_move done line more)
    ∙ take_at (done ++ line ∷ []) more n (length-append done (line ∷ []) ∙ ap (λ (k : ℕ). k + 1) (texts_count done ls read)) in
    let theirs : take n (lines other) ≡ map line_text (take n all) = ap (take n) (ap lines is ∙ lines_of_text s range) ∙ take-map line_text n all in
    let (front, o, parts, before, here) = last_of_map line_text (take n all) done line (sym theirs ∙ same ∙ ours) in
    let in_range : AllByRecursion IsLine (front ++ o ∷ []) = subst (AllByRecursion IsLine) parts (all_take IsLine n all (sheet_range s range)) in
    let ranges = all_parts IsLine front (o ∷ []) in_range in
    let bare = texts_only done ls front read ranges.0 (sym before) in
    let (end, whole, _) = stage_of_sheet s in
    let (some, reached) = stage_after-take (Some AtRecords) n all end whole in
    let at_front : stage_after (Some AtRecords) front ≡ Some stage =
    sym (stage_after-bare (Some AtRecords) front) ∙ ap (stage_after (Some AtRecords)) bare ∙ at in
    let none : stage_after (Some AtRecords) (front ++ o ∷ []) ≡ None =
    stage_after-append (Some AtRecords) front (o ∷ []) ∙ ap (λ (a : Option Stage). stage_after a (o ∷ [])) at_front
    ∙ ap (λ (a : Option Stage). stage_after a []) (refused o ranges.1.0 (sym here)) in
    let both_ways : Some some ≡ None = sym reached ∙ ap (stage_after (Some AtRecords)) parts ∙ none in
    cc

-- a line that may not come is the first stray one
pub stray_at : (text rest line behind : List ℕ) (number : ℕ) (rs : List TheRecord) (cs : List TroubleLine) (tally : Tally)
    → IsReadSoFar text rest number (lines_so_far rs cs tally) → lines rest ≡ line ∷ lines behind
    → ((o : Line) → IsLine o → line ≡ line_text o → next_stage (stage_behind tally cs) o ≡ None) → IsFirstStrayLine IsSheetText text number
stray_at text rest line behind number rs cs tally so next refused =
    let split = so.split ∙ ap (λ (r : List (List ℕ)). so.done ++ r) next in
    record {
      before = begun_text text so.done (line ∷ lines behind) rs cs tally number split so.read so.counted;
      here = subst (λ (n : ℕ). (other : List ℕ) → IsSheetText other → ¬ HaveSameLines n other text) (sym so.counted)
          (stray_line text line (lines behind) so.done (lines_so_far rs cs tally) (stage_behind tally cs) split so.read (stage_of_lines rs cs tally) refused);
    }

-- so is one that was read, and may not come
pub stray_read : (text rest line behind : List ℕ) (number : ℕ) (rs : List TheRecord) (cs : List TroubleLine) (tally : Tally) (l : Line)
    → IsReadSoFar text rest number (lines_so_far rs cs tally) → rest ≡ line ++ behind → IsWholeLine line → IsTextOf line l
    → next_stage (stage_behind tally cs) l ≡ None → IsFirstStrayLine IsSheetText text number
stray_read text rest line behind number rs cs tally l so split whole is refused =
    stray_at text rest line behind number rs cs tally so (ap lines split ∙ whole_line_first line behind whole)
    (λ o range same. sym (next-bare (stage_behind tally cs) o) ∙ ap (next_stage (stage_behind tally cs)) (is.only o range same) ∙ refused)

-- and one that is no line's
pub stray_unread : (text rest line behind : List ℕ) (number : ℕ) (rs : List TheRecord) (cs : List TroubleLine) (tally : Tally)
    → IsReadSoFar text rest number (lines_so_far rs cs tally) → rest ≡ line ++ behind → IsWholeLine line
    → ((l : Line) → IsLine l → line ≢ line_text l) → IsFirstStrayLine IsSheetText text number
stray_unread text rest line behind number rs cs tally so split whole none =
    stray_at text rest line behind number rs cs tally so (ap lines split ∙ whole_line_first line behind whole)
    (λ o range same. absurd (none o range same))

-- a last line that isn't whole is stray
unended_line : (x : ℕ) (rest : List ℕ) → Lacks 10 (x ∷ rest) → (o : Line) → IsLine o → x ∷ rest ≡ line_text o → ⊥
unended_line x rest lacks o range same =
    let w = line_text_whole o range in
    has_byte 10 w.front [] (subst (Lacks 10) (same ∙ w.line_is) lacks)

-- and so is the line that is missing after the number of paths
lacks_closed : (text : List ℕ) (done : List (List ℕ)) (ls : List Line) → lines text ≡ done → AreTextsOf done ls → stage_after (Some AtRecords) ls ≡ Some AtPaths
    → (other : List ℕ) → IsSheetText other → ¬ HaveSameLines (length ls + 1) other text
lacks_closed text done ls split read at other (s, range, is) same =
    let n = length ls + 1 in
    let all = lines_of_sheet s in
    let count = texts_count done ls read in
    let ours : take n (lines text) ≡ done = ap (take n) split ∙ take_all n done (omega (arith, count)) in
    let theirs : lines other ≡ map line_text all = ap lines is ∙ lines_of_text s range in
    let front : map line_text (take n all) ≡ done = sym (take-map line_text n all) ∙ sym (ap (take n) theirs) ∙ same ∙ ours in
    let short : length (take n all) ≡ length done = sym (length-map (take n all) line_text) ∙ ap length front in
    let cut = length-take n all in
    let few : length all ≤ n = omega (arith, cut, short, count) in
    let whole : take n all ≡ all = take_all n all few in
    let bare = texts_only done ls all read (sheet_range s range) (sym (sym (ap (map line_text) whole) ∙ front)) in
    let (end, reached, not_between) = stage_of_sheet s in
    let both_ways : Some end ≡ Some AtPaths = sym reached ∙ sym (stage_after-bare (Some AtRecords) all) ∙ ap (stage_after (Some AtRecords)) bare ∙ at in
    let same_end : end ≡ AtPaths = cc in
    not_between.whole same_end

-- after the last whole line the text ends, or the next line is stray
pub stray_end : (text rest : List ℕ) (number : ℕ) (rs : List TheRecord) (cs : List TroubleLine) (tally : Tally)
    → IsReadSoFar text rest number (lines_so_far rs cs tally)
    → Lacks 10 rest → (0 < length rest) ⊎ (stage_behind tally cs ≡ AtPaths) → IsFirstStrayLine IsSheetText text number
stray_end text [] number rs cs tally so lacks (inl some) = absurd (omega arith)
stray_end text [] number rs cs tally so lacks (inr between) =
    let split : lines text ≡ so.done = so.split ∙ ap (λ (r : List (List ℕ)). so.done ++ r) lines_of_nothing ∙ append-nil so.done in
    record {
      before = begun_text text so.done (lines []) rs cs tally number so.split so.read so.counted;
      here = subst (λ (n : ℕ). (other : List ℕ) → IsSheetText other → ¬ HaveSameLines n other text) (sym so.counted)
          (lacks_closed text so.done (lines_so_far rs cs tally) split so.read (stage_of_lines rs cs tally ∙ ap (λ (stage : Stage). Some stage) between));
    }
stray_end text (x ∷ rest) number rs cs tally so lacks why =
    stray_at text (x ∷ rest) (x ∷ rest) [] number rs cs tally so
    (lines_of_rest x rest lacks ∙ ap (λ (r : List (List ℕ)). (x ∷ rest) ∷ r) (sym lines_of_nothing))
    (λ o range same. absurd (unended_line x rest lacks o range same))

-- a text that was read to its end is that of the lines
pub read_all : (text rest : List ℕ) (number : ℕ) (rs : List TheRecord) (cs : List TroubleLine) (counts : Option Counts) (tally : Tally)
    → IsReadSoFar text rest number (lines_so_far rs cs tally) → length rest ≡ 0 → tally_lines tally ≡ lines_of_counts counts
    → IsReadAs text (record { records = rs; cards = cs; counts = counts })
read_all text [] number rs cs counts tally so none same =
    let split : lines text ≡ so.done = so.split ∙ ap (λ (r : List (List ℕ)). so.done ++ r) lines_of_nothing ∙ append-nil so.done in
    let ls : lines_so_far rs cs tally ≡ lines_of_sheet (record { records = rs; cards = cs; counts = counts }) =
    ap (λ (c : List Line). (map Record rs ++ map Trouble cs) ++ c) same in
    subst (λ (ts : List (List ℕ)). AreTextsOf ts (lines_of_sheet (record { records = rs; cards = cs; counts = counts }))) (sym split)
    (subst (λ (l : List Line). AreTextsOf so.done l) ls so.read)
read_all text (x ∷ rest) number rs cs counts tally so none same = absurd (omega arith)
