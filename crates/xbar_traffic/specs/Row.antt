use Rattle.std.specs.Prelude.{◌≡◌, ◌≢◌, ◌<◌, ℕ, Bool, true, false, not, ◌&&◌, ◌||◌, if◌then◌else◌, List, [], ◌∷◌, Result, Ok, Err, codes, decimal, bytes_eq}
use Rattle.xbar_equip.specs.Dialled.{IsDialled, dialled_text}
use Rattle.xbar_equip.specs.Len.{IsLine, line_text}
use Rattle.xbar_office.specs.Legal.{IsJob}
use Rattle.xbar_traffic.specs.Job.{job_fields, is_job_kind}
use Rattle.xbar_traffic.specs.declared.fault.RowFault.{RowFault}
use Rattle.xbar_traffic.specs.declared.fault.RowFault.TheVariants.{Unreadable, UnknownKind, Malformed, OtherMode}
use Rattle.xbar_traffic.specs.declared.row.Row.{Row}
use Rattle.xbar_traffic.specs.declared.fault.WrongField.{WrongField}
use Rattle.xbar_traffic.specs.declared.row.Mode.{Mode}
use Rattle.xbar_traffic.specs.declared.row.Mode.TheVariants.{Replay, Live}
use Rattle.xbar_traffic.specs.declared.row.Row.TheVariants.{Assign, Steps, Call}

-- a row is in range: its numbers, its job, its line and its digits
abbrev pub IsRow : Row → Type 0
IsRow (Assign marker job_no job) = (marker < 100) × (job_no < 10000) × IsJob job
IsRow (Steps marker count) = (marker < 100) × (count < 10000)
IsRow (Call call_no line dialled release) = (call_no < 10000) × IsLine line × IsDialled dialled

-- the mode that a row belongs to
abbrev pub mode_of : Row → Mode
mode_of (Assign marker job_no job) = Replay
mode_of (Steps marker count) = Replay
mode_of (Call call_no line dialled release) = Live

-- the letter that says whether a call is released once it is connected, or kept
abbrev pub hold_letter : Bool → List ℕ
hold_letter true = codes "R"
hold_letter false = codes "K"

-- the five fields of a row
abbrev pub row_fields : Row → List (List ℕ)
row_fields (Assign marker job_no job) = codes "J" ∷ decimal marker ∷ decimal job_no ∷ job_fields job
row_fields (Steps marker count) = codes "S" ∷ decimal marker ∷ decimal count ∷ [] ∷ [] ∷ []
row_fields (Call call_no line dialled release) =
    codes "C" ∷ decimal call_no ∷ line_text line ∷ dialled_text dialled ∷ hold_letter release ∷ []

-- whether a first field is the letter of a row
abbrev pub is_row_letter : List ℕ → Bool
is_row_letter letter =
    bytes_eq letter (codes "J") || bytes_eq letter (codes "S") || bytes_eq letter (codes "C")

-- whether a first field is the letter of a row of this mode
abbrev pub is_letter_of : Mode → List ℕ → Bool
is_letter_of Replay letter = bytes_eq letter (codes "J") || bytes_eq letter (codes "S")
is_letter_of Live letter = bytes_eq letter (codes "C")

-- the fault of five fields that are no row of a mode: the first of these that applies
abbrev pub five_fault : Mode → List ℕ → List ℕ → RowFault
five_fault mode letter kind =
    if not (is_row_letter letter) then UnknownKind else
    if not (is_letter_of mode letter) then OtherMode else
    if bytes_eq letter (codes "J") && not (is_job_kind kind) then UnknownKind else
    Malformed

-- the fault of fields that are no row of a mode: there aren't five, or the fault of the five
abbrev pub fields_fault : Mode → List (List ℕ) → RowFault
fields_fault mode (letter ∷ second ∷ third ∷ kind ∷ fifth ∷ []) = five_fault mode letter kind
fields_fault mode _ = Unreadable

-- the result of reading fields: the row of this mode with these fields, or the fault if there is
-- none
abbrev pub IsReadAs : Mode → List (List ℕ) → Result Row RowFault → Type 0
IsReadAs mode fields (Ok row) = IsRow row × (mode_of row ≡ mode) × (fields ≡ row_fields row)
IsReadAs mode fields (Err fault) =
    ((row : Row) → IsRow row → mode_of row ≡ mode → fields ≢ row_fields row)
    × (fault ≡ fields_fault mode fields)

-- the same, where an error also tells which field is wrong
abbrev pub IsRowRead : Mode → List (List ℕ) → Result Row WrongField → Type 0
IsRowRead mode fields (Ok row) = IsReadAs mode fields (Ok row)
IsRowRead mode fields (Err wrong) = IsReadAs mode fields (Err wrong.fault)
