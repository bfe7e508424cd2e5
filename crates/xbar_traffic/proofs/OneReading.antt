use Rattle.std.proofs.Common.{◌≡◌, ◌⊎◌, ◌++◌, ℕ, Bool, true, false, List, [], ◌∷◌, Some, None, refl, sym, ap, subst, ◌∙◌, arith, inl, inr, Option, Ok, Err, All}
use Rattle.std.proofs.lemmas.{Fmt.decimal_injective, List.Elements.{All-cons, All-nil}}
use Rattle.xbar_traffic.specs.{Row.{IsReadAs, IsRow, hold_letter, mode_of, row_fields}, Traffic.{AreReadAfter, IsJudgedAs, repeats, is_in_rows}}
use Rattle.xbar_traffic.specs.declared.fault.RowFault.{RowFault, TheVariants.{Unreadable, UnknownKind, Malformed, NumberTwice, Marker, OtherMode}}
use Rattle.xbar_traffic.specs.declared.row.{Mode.Mode, Row.{Row, TheVariants.{Assign, Steps, Call}}}
use Rattle.xbar_traffic.proofs.JobFields.{dialled_text_injective, first_same, job_fields_injective, line_text_injective, rest_same}

-- a hold's letter is not the other's
hold_letter_injective : (a b : Bool) → hold_letter a ≡ hold_letter b → a ≡ b
hold_letter_injective true true e = refl
hold_letter_injective false false e = refl
hold_letter_injective true false e = absurd (let letter : 82 ≡ 75 = first_same _ _ _ _ e in omega arith)
hold_letter_injective false true e = absurd (let letter : 75 ≡ 82 = first_same _ _ _ _ e in omega arith)

-- a row's fields are no other's
row_fields_injective : (a b : Row) → IsRow a → IsRow b → row_fields a ≡ row_fields b → a ≡ b
row_fields_injective (Assign m j job) (Assign m2 j2 job2) h h2 e =
    let e1 = rest_same _ _ _ _ e in
    let marker = decimal_injective m m2 (omega (arith, h.0)) (omega (arith, h2.0)) (first_same _ _ _ _ e1) in
    let e2 = rest_same _ _ _ _ e1 in
    let number = decimal_injective j j2 (omega (arith, h.1)) (omega (arith, h2.1)) (first_same _ _ _ _ e2) in
    let same = job_fields_injective job job2 h.2 h2.2 (rest_same _ _ _ _ e2) in
    cc
row_fields_injective (Steps m c) (Steps m2 c2) h h2 e =
    let e1 = rest_same _ _ _ _ e in
    let marker = decimal_injective m m2 (omega (arith, h.0)) (omega (arith, h2.0)) (first_same _ _ _ _ e1) in
    let e2 = rest_same _ _ _ _ e1 in
    let count = decimal_injective c c2 (omega (arith, h.1)) (omega (arith, h2.1)) (first_same _ _ _ _ e2) in
    cc
row_fields_injective (Call n l d r) (Call n2 l2 d2 r2) h h2 e =
    let e1 = rest_same _ _ _ _ e in
    let number = decimal_injective n n2 (omega (arith, h.0)) (omega (arith, h2.0)) (first_same _ _ _ _ e1) in
    let e2 = rest_same _ _ _ _ e1 in
    let line = line_text_injective l l2 (first_same _ _ _ _ e2) in
    let e3 = rest_same _ _ _ _ e2 in
    let dialled = dialled_text_injective d d2 h.2 h2.2 (first_same _ _ _ _ e3) in
    let release = hold_letter_injective r r2 (first_same _ _ _ _ (rest_same _ _ _ _ e3)) in
    cc
row_fields_injective (Assign m j job) (Steps m2 c2) h h2 e = absurd (let letter : 74 ≡ 83 = first_same _ _ _ _ (first_same _ _ _ _ e) in omega arith)
row_fields_injective (Steps m c) (Assign m2 j2 job2) h h2 e = absurd (let letter : 83 ≡ 74 = first_same _ _ _ _ (first_same _ _ _ _ e) in omega arith)
row_fields_injective (Assign m j job) (Call n l d r) h h2 e = absurd (let letter : 74 ≡ 67 = first_same _ _ _ _ (first_same _ _ _ _ e) in omega arith)
row_fields_injective (Steps m c) (Call n l d r) h h2 e = absurd (let letter : 83 ≡ 67 = first_same _ _ _ _ (first_same _ _ _ _ e) in omega arith)
row_fields_injective (Call n l d r) (Assign m j job) h h2 e = absurd (let letter : 67 ≡ 74 = first_same _ _ _ _ (first_same _ _ _ _ e) in omega arith)
row_fields_injective (Call n l d r) (Steps m c) h h2 e = absurd (let letter : 67 ≡ 83 = first_same _ _ _ _ (first_same _ _ _ _ e) in omega arith)

-- fields are read as one row
one_row : (mode : Mode) (fields : List (List ℕ)) (a b : Row) → IsReadAs mode fields (Ok a) → IsReadAs mode fields (Ok b) → a ≡ b
one_row mode fields a b h j = row_fields_injective a b h.0 j.0 (sym h.2 ∙ j.2)

-- the fault of fields is that of a number that occurs twice, or that of the fields alone
fault_split : (mode : Mode) (seen : ℕ → Bool) (fields : List (List ℕ)) (fault : RowFault) → IsJudgedAs mode seen fields (Err fault)
    → ((fault ≡ NumberTwice) × (row : Row) × IsReadAs mode fields (Ok row) × (repeats seen row ≡ true)) ⊎ IsReadAs mode fields (Err fault)
fault_split mode seen fields NumberTwice h = inl (refl, h.0, h.1, h.2)
fault_split mode seen fields Unreadable h = inr h
fault_split mode seen fields UnknownKind h = inr h
fault_split mode seen fields Malformed h = inr h
fault_split mode seen fields (Marker why) h = inr h
fault_split mode seen fields OtherMode h = inr h

-- no fields are judged as a row and at fault
row_or_fault : (mode : Mode) (seen : ℕ → Bool) (fields : List (List ℕ)) (row : Row) (fault : RowFault)
    → IsJudgedAs mode seen fields (Ok row) → IsJudgedAs mode seen fields (Err fault) → ⊥
row_or_fault mode seen fields row fault h j = elim (fault_split mode seen fields fault j) [
  | inl twice ↦
      let (_, other, read, again) = twice in
      let same = one_row mode fields row other h.0 read in
      let once = h.1 in
      let both : repeats seen row ≡ true = ap (repeats seen) same ∙ again in
      cc
  | inr alone ↦ alone.0 row h.0.0 h.0.1 h.0.2
]

-- fields have one fault
one_fault : (mode : Mode) (seen : ℕ → Bool) (fields : List (List ℕ)) (a b : RowFault)
    → IsJudgedAs mode seen fields (Err a) → IsJudgedAs mode seen fields (Err b) → a ≡ b
one_fault mode seen fields a b h j = elim (fault_split mode seen fields a h) [
  | inl twice ↦ elim (fault_split mode seen fields b j) [
    | inl again ↦ twice.0 ∙ sym again.0
    | inr alone ↦ absurd (alone.0 twice.1 twice.2.0 twice.2.1 twice.2.2)
  ]
  | inr alone ↦ elim (fault_split mode seen fields b j) [
    | inl twice ↦ absurd (alone.0 twice.1 twice.2.0 twice.2.1 twice.2.2)
    | inr other ↦ alone.1 ∙ sym other.1
  ]
]

-- records after rows are one traffic
pub one_traffic : (mode : Mode) (before : List Row) (records : List (List (List ℕ))) (rows rows2 : List Row) (fault fault2 : Option RowFault)
    → AreReadAfter mode before records rows fault → AreReadAfter mode before records rows2 fault2 → (rows ≡ rows2) × (fault ≡ fault2)
one_traffic mode before [] [] [] None None h j = (refl, refl)
one_traffic mode before [] [] [] None (Some f2) h j = absurd j
one_traffic mode before [] [] [] (Some f) fault2 h j = absurd h
one_traffic mode before [] [] (r2 ∷ rows2) fault fault2 h j = absurd j
one_traffic mode before [] (r ∷ rows) rows2 fault fault2 h j = absurd h
one_traffic mode before (f ∷ records) [] [] None fault2 h j = absurd h
one_traffic mode before (f ∷ records) [] [] (Some a) None h j = absurd j
one_traffic mode before (f ∷ records) [] [] (Some a) (Some b) h j = (refl, ap Some (one_fault mode (is_in_rows before) f a b h j))
one_traffic mode before (f ∷ records) [] (r2 ∷ rows2) None fault2 h j = absurd h
one_traffic mode before (f ∷ records) [] (r2 ∷ rows2) (Some a) fault2 h j = absurd (row_or_fault mode (is_in_rows before) f r2 a j.0 h)
one_traffic mode before (f ∷ records) (r ∷ rows) [] fault None h j = absurd j
one_traffic mode before (f ∷ records) (r ∷ rows) [] fault (Some b) h j = absurd (row_or_fault mode (is_in_rows before) f r b h.0 j)
one_traffic mode before (f ∷ records) (r ∷ rows) (r2 ∷ rows2) fault fault2 h j =
    let same = one_row mode f r r2 h.0.0 j.0.0 in
    let later : AreReadAfter mode (before ++ r ∷ []) records rows2 fault2 =
    subst (λ (row : Row). AreReadAfter mode (before ++ row ∷ []) records rows2 fault2) (sym same) j.1 in
    let (rest, end) = one_traffic mode (before ++ r ∷ []) records rows rows2 fault fault2 h.1 later in
    (cc, end)

-- and each of their rows is in range
pub rows_in_range : (mode : Mode) (before : List Row) (records : List (List (List ℕ))) (rows : List Row) (fault : Option RowFault)
    → AreReadAfter mode before records rows fault → All IsRow rows
rows_in_range mode before records [] fault h = All-nil IsRow
rows_in_range mode before [] (r ∷ rows) fault h = absurd h
rows_in_range mode before (f ∷ records) (r ∷ rows) fault h = All-cons IsRow r rows h.0.0.0 (rows_in_range mode (before ++ r ∷ []) records rows fault h.1)

-- and of the mode
pub rows_of_mode : (mode : Mode) (before : List Row) (records : List (List (List ℕ))) (rows : List Row) (fault : Option RowFault)
    → AreReadAfter mode before records rows fault → All (λ row. mode_of row ≡ mode) rows
rows_of_mode mode before records [] fault h = All-nil (λ row. mode_of row ≡ mode)
rows_of_mode mode before [] (r ∷ rows) fault h = absurd h
rows_of_mode mode before (f ∷ records) (r ∷ rows) fault h =
    All-cons (λ row. mode_of row ≡ mode) r rows h.0.0.1 (rows_of_mode mode (before ++ r ∷ []) records rows fault h.1)
