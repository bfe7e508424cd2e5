use Rattle.std.proofs.Common.{◌≡◌, ◌||◌, ℕ, Bool, List, [], ◌∷◌, ◌++◌, Some, None, refl, sym, ap, ◌∙◌, append_assoc, subst, Result, Ok, Err, append-nil}
use Rattle.{std.proofs.{Math.Bool.or-false, lemmas.List.Folds.list_any-append}, xbar_traffic.specs.Traffic.{AreReadAfter, IsJudgedAs, has_number, repeats}}
use Rattle.xbar_traffic.specs.{Traffic.is_in_rows, declared.fault.RowFault.{RowFault, TheVariants.{Unreadable, UnknownKind, Malformed, NumberTwice, Marker}}}
use Rattle.xbar_traffic.specs.declared.{fault.RowFault.TheVariants.OtherMode, row.{Mode.Mode, Row.{Row, TheVariants.{Assign, Steps, Call}}}}

-- the numbers of rows, and of one more
pub is_in_rows-more : (rows : List Row) (row : Row) (number : ℕ) → is_in_rows (rows ++ row ∷ []) number ≡ (is_in_rows rows number || has_number number row)
is_in_rows-more rows row number =
    list_any-append (has_number number) rows (row ∷ []) ∙ ap (λ (b : Bool). is_in_rows rows number || b) (or-false (has_number number row))

repeats-same : (p q : ℕ → Bool) → ((n : ℕ) → p n ≡ q n) → (row : Row) → repeats p row ≡ repeats q row
repeats-same p q same (Assign marker job_no job) = same job_no
repeats-same p q same (Steps marker count) = refl
repeats-same p q same (Call call_no line dialled release) = same call_no

-- a judgement by another test with the same answers
pub judged_by_same : (mode : Mode) (p q : ℕ → Bool) → ((n : ℕ) → p n ≡ q n) → (fields : List (List ℕ)) (judged : Result Row RowFault)
    → IsJudgedAs mode p fields judged → IsJudgedAs mode q fields judged
judged_by_same mode p q same fields (Ok row) h = (h.0, sym (repeats-same p q same row) ∙ h.1)
judged_by_same mode p q same fields (Err NumberTwice) h = (h.0, h.1, sym (repeats-same p q same h.0) ∙ h.2)
judged_by_same mode p q same fields (Err Unreadable) h = h
judged_by_same mode p q same fields (Err UnknownKind) h = h
judged_by_same mode p q same fields (Err Malformed) h = h
judged_by_same mode p q same fields (Err (Marker why)) h = h
judged_by_same mode p q same fields (Err OtherMode) h = h

-- one more record that is a row
pub read_more : (mode : Mode) (before : List Row) (records : List (List (List ℕ))) (rows : List Row) (fields : List (List ℕ)) (row : Row)
    → AreReadAfter mode before records rows None → IsJudgedAs mode (is_in_rows (before ++ rows)) fields (Ok row)
    → AreReadAfter mode before (records ++ fields ∷ []) (rows ++ row ∷ []) None
read_more mode before [] [] fields row h j = (subst (λ (rows : List Row). IsJudgedAs mode (is_in_rows rows) fields (Ok row)) (append-nil before) j, tt)
read_more mode before [] (r ∷ rows) fields row h j = absurd h
read_more mode before (f ∷ records) [] fields row h j = absurd h
read_more mode before (f ∷ records) (r ∷ rows) fields row h j =
    let later : IsJudgedAs mode (is_in_rows ((before ++ r ∷ []) ++ rows)) fields (Ok row) =
    subst (λ (all : List Row). IsJudgedAs mode (is_in_rows all) fields (Ok row)) (sym (append_assoc before (r ∷ []) rows)) j in
    (h.0, read_more mode (before ++ r ∷ []) records rows fields row h.1 later)

-- one more record that is at fault, whatever follows it
pub read_stops : (mode : Mode) (before : List Row) (records rest : List (List (List ℕ))) (rows : List Row) (fields : List (List ℕ)) (fault : RowFault)
    → AreReadAfter mode before records rows None → IsJudgedAs mode (is_in_rows (before ++ rows)) fields (Err fault)
    → AreReadAfter mode before ((records ++ fields ∷ []) ++ rest) rows (Some fault)
read_stops mode before [] rest [] fields fault h j = subst (λ (rows : List Row). IsJudgedAs mode (is_in_rows rows) fields (Err fault)) (append-nil before) j
read_stops mode before [] rest (r ∷ rows) fields fault h j = absurd h
read_stops mode before (f ∷ records) rest [] fields fault h j = absurd h
read_stops mode before (f ∷ records) rest (r ∷ rows) fields fault h j =
    let later : IsJudgedAs mode (is_in_rows ((before ++ r ∷ []) ++ rows)) fields (Err fault) =
    subst (λ (all : List Row). IsJudgedAs mode (is_in_rows all) fields (Err fault)) (sym (append_assoc before (r ∷ []) rows)) j in
    (h.0, read_stops mode (before ++ r ∷ []) records rest rows fields fault h.1 later)
