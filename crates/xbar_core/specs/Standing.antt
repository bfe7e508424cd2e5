use Rattle.std.specs.Prelude.{◌≡◌, ℕ, ◌+◌, ◌≤◌, Option, None, Some, is_some, List, [], ◌∷◌, length, slice_get, ⊤, if◌then◌else◌}
use Rattle.turns.specs.Attempt.{turn_in}
use Rattle.turns.specs.World.{Idle, Does}
use Rattle.xbar_plan.specs.Tables.{Tables}
use Rattle.xbar_jobs.specs.Attempt.{Phase}
use Rattle.xbar_jobs.specs.Standing.{IsValid, most_held}
use Rattle.xbar_moves.specs.Exchange.{Exchange, IsLawfulExchange, Marker, Work as TheWork, on_job}
use Rattle.xbar_core.specs.declared.work.Work.{Work}

-- a marker's work in the definitions: none, or its job's number with the attempt at it
abbrev pub work_of : Option Work → TheWork
work_of None = Idle
work_of (Some work) = Does work.job_no work.program.attempt

-- a marker's attempt is valid, if it has one
abbrev pub StandsAt : Tables → TheWork → Type 0
StandsAt plan work = on_job ⊤ (λ number a. IsValid plan a) work

-- a marker holds few connectors
abbrev pub HoldsFew : TheWork → Type 0
HoldsFew work = on_job ⊤ (λ number a. length a.held ≤ most_held) work

-- what every office of markers keeps: it is lawful, and each marker's attempt is valid
pub record IsExchange (plan : Tables) (e : Exchange) : Type 0 where
  pub lawful : IsLawfulExchange plan e
  pub valid : (k : ℕ) (m : Marker) → slice_get e.markers k ≡ Some m → StandsAt plan m.work

-- 1 if a job's turn is still to come, else 0
abbrev pub waits_in : Phase → ℕ
waits_in phase = if is_some (turn_in phase) then 0 else 1

-- 1 if a marker has a job whose turn is still to come, else 0
abbrev pub waits : TheWork → ℕ
waits work = on_job 0 (λ number a. waits_in a.phase) work

-- how many markers have a job whose turn is still to come
unfoldable pub waiting : List Marker → ℕ
waiting [] = 0
waiting (m ∷ markers) = waits m.work + waiting markers

-- there is room for the records of all jobs that were assigned
abbrev pub HasRoom : Exchange → ℕ → Type 0
HasRoom e room = length e.records + waiting e.markers ≤ room
