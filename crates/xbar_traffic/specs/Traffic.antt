use Rattle.std.specs.Prelude.{◌≡◌, ℕ, ◌==◌, Bool, true, false, Option, Some, None, Result, Ok, Err, List, [], ◌∷◌, ◌++◌}
use Rattle.std.specs.List.{list_any}
use Rattle.xbar_traffic.specs.Row.{IsReadAs}
use Rattle.xbar_traffic.specs.declared.fault.RowFault.{RowFault}
use Rattle.xbar_traffic.specs.declared.fault.RowFault.TheVariants.{NumberTwice}
use Rattle.xbar_traffic.specs.declared.row.Mode.{Mode}
use Rattle.xbar_traffic.specs.declared.row.Row.{Row}
use Rattle.xbar_traffic.specs.declared.row.Row.TheVariants.{Assign, Steps, Call}

-- whether the job or the call of a row has this number
abbrev pub has_number : ℕ → Row → Bool
has_number number (Assign marker job_no job) = job_no == number
has_number number (Steps marker count) = false
has_number number (Call call_no line dialled release) = call_no == number

-- whether one of these rows has this number
abbrev pub is_in_rows : List Row → ℕ → Bool
is_in_rows rows number = list_any (has_number number) rows

-- whether a row's number is among those of earlier rows
abbrev pub repeats : (ℕ → Bool) → Row → Bool
repeats seen (Assign marker job_no job) = seen job_no
repeats seen (Steps marker count) = false
repeats seen (Call call_no line dialled release) = seen call_no

-- the result of reading fields after rows with these numbers
abbrev pub IsJudgedAs : Mode → (ℕ → Bool) → List (List ℕ) → Result Row RowFault → Type 0
IsJudgedAs mode seen fields (Ok row) = IsReadAs mode fields (Ok row) × (repeats seen row ≡ false)
IsJudgedAs mode seen fields (Err NumberTwice) =
    (row : Row) × IsReadAs mode fields (Ok row) × (repeats seen row ≡ true)
IsJudgedAs mode seen fields (Err fault) = IsReadAs mode fields (Err fault)

-- the result of reading records after these rows: the rows up to the first fault, and that fault
-- if there is one
abbrev pub AreReadAfter : Mode → List Row → List (List (List ℕ)) → List Row → Option RowFault
    → Type 0
AreReadAfter mode before [] [] None = Unit {0}
AreReadAfter mode before (fields ∷ records) [] (Some fault) =
    IsJudgedAs mode (is_in_rows before) fields (Err fault)
AreReadAfter mode before (fields ∷ records) (row ∷ rows) fault =
    IsJudgedAs mode (is_in_rows before) fields (Ok row)
    × AreReadAfter mode (before ++ row ∷ []) records rows fault
AreReadAfter mode before _ _ _ = ⊥

-- the result of reading all records as traffic of a mode
abbrev pub IsTrafficOf : Mode → List (List (List ℕ)) → List Row → Option RowFault → Type 0
IsTrafficOf mode records rows fault = AreReadAfter mode [] records rows fault
