use Rattle.std.specs.Prelude.{◌≡◌, ◌≢◌, ℕ, Bool, true, false, ◌||◌, List, [], ◌∷◌, ◌++◌, Result, Ok, Err, codes, bytes_eq}
use Rattle.xbar_equip.specs.Dialled.{dialled_text}
use Rattle.xbar_equip.specs.Len.{line_text}
use Rattle.xbar_office.specs.Legal.{IsJob}
use Rattle.xbar_office.specs.declared.job.Job.{Job}
use Rattle.xbar_office.specs.declared.job.Job.TheVariants.{Dial, Complete, Release}
use Rattle.xbar_traffic.specs.declared.fault.RowFault.{RowFault}
use Rattle.xbar_traffic.specs.declared.fault.RowFault.TheVariants.{UnknownKind, Malformed}

-- the two fields of a job: the letter of its kind, and its arguments
abbrev pub job_fields : Job → List (List ℕ)
job_fields (Dial line) = codes "D" ∷ line_text line ∷ []
job_fields (Complete line dialled) =
    codes "C" ∷ (line_text line ++ (codes " " ++ dialled_text dialled)) ∷ []
job_fields (Release line) = codes "R" ∷ line_text line ∷ []

-- whether a field is the letter of a kind of job
abbrev pub is_job_kind : List ℕ → Bool
is_job_kind kind =
    bytes_eq kind (codes "D") || bytes_eq kind (codes "C") || bytes_eq kind (codes "R")

-- the fault of two fields that are no job's, by whether the first is the letter of a kind
abbrev pub job_fault : Bool → RowFault
job_fault true = Malformed
job_fault false = UnknownKind

-- the result of reading two fields as a job: the job with these fields, or the fault if there is
-- none
abbrev pub IsJobReadAs : List ℕ → List ℕ → Result Job RowFault → Type 0
IsJobReadAs kind args (Ok job) = IsJob job × (kind ∷ args ∷ [] ≡ job_fields job)
IsJobReadAs kind args (Err fault) =
    ((job : Job) → IsJob job → kind ∷ args ∷ [] ≢ job_fields job)
    × (fault ≡ job_fault (is_job_kind kind))
