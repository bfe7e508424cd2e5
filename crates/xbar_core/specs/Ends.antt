use Rattle.std.specs.Prelude.{◌≡◌, ℕ, zero, suc, ◌==◌, Bool, true, false, Some, List, ◌++◌, length, slice_get}
use Rattle.std.specs.List.{count_by}
use Rattle.turns.specs.Attempt.{act}
use Rattle.turns.specs.declared.act.Act.TheVariants.{Finished}
use Rattle.turns.specs.declared.phase.Phase.TheVariants.{Operates}
use Rattle.xbar_plan.specs.Tables.{Tables}
use Rattle.xbar_office.specs.declared.job.Job.{Job}
use Rattle.xbar_jobs.specs.Attempt.{Attempt}
use Rattle.xbar_moves.specs.Exchange.{Exchange, Marker, is_idle}
use Rattle.xbar_moves.specs.Holding.{IsAt}
use Rattle.xbar_moves.specs.Moves.{given_at, given_back, steps}
use Rattle.xbar_moves.specs.Runs as runs
use Rattle.xbar_moves.specs.Runs.{Move, run_from}
use Rattle.xbar_moves.specs.declared.event.Given.TheVariants as given

-- whether a move is a step of marker k
abbrev pub is_step_of : ℕ → Move → Bool
is_step_of k (runs.Steps j) = j == k
is_step_of k _ = false

-- how many of these moves are steps of marker k
abbrev pub own_steps : ℕ → List Move → ℕ
own_steps k moves = count_by (is_step_of k) moves

-- at some point of these moves, marker k has come to the end of its job: nothing is left of it
pub record ComesToEnd (plan : Tables) (e : Exchange) (moves : List Move) (k number turn : ℕ)
    (job : Job) : Type 0 where
  pub before : List Move
  pub later : List Move
  pub split : moves ≡ before ++ later
  pub ended : Attempt
  pub there : IsAt (run_from plan e before) k number ended
  pub phase : ended.phase ≡ Operates turn
  pub job_is : ended.job ≡ job
  pub rests : act ended ≡ Finished

-- marker k makes steps until nothing is left of its job
pub record RunsToEnd (plan : Tables) (k : ℕ) (before after : Exchange) : Type 0 where
  pub count : ℕ
  pub steps_are : after ≡ steps plan k count before
  pub idle : (m : Marker) → slice_get after.markers k ≡ Some m → is_idle m.work ≡ true

-- marker k is past its turn, and something is left of its job
abbrev pub IsPast : Exchange → ℕ → Type 0
IsPast e k = given_at e k ≡ given.PastTurn

-- a marker past its turn runs to its end, and any other is left alone
pub record EndsIfPast (plan : Tables) (k : ℕ) (before after : Exchange) : Type 0 where
  pub past : IsPast before k → RunsToEnd plan k before after
  pub other : ¬ IsPast before k → after ≡ before

-- marker k gives back all that it holds
abbrev pub GivesBack : Tables → ℕ → Exchange → Exchange → Type 0
GivesBack plan k before after = after ≡ given_back plan k before

-- the markers below a number, in the order of their numbers, each lead from one office to another
abbrev pub EachMakes : (ℕ → Exchange → Exchange → Type 0) → ℕ → Exchange → Exchange → Type 0
EachMakes Makes zero before after = after ≡ before
EachMakes Makes (suc k) before after =
    (between : Exchange) × EachMakes Makes k before between × Makes k between after

-- an office settles: the markers past their turn run to their end, then all others give back,
-- and then each runs to its end
pub record Settles (plan : Tables) (before after : Exchange) : Type 0 where
  pub ended : Exchange
  pub given : Exchange
  pub ends : EachMakes (EndsIfPast plan) (length before.markers) before ended
  pub gives : EachMakes (GivesBack plan) (length before.markers) ended given
  pub runs : EachMakes (RunsToEnd plan) (length before.markers) given after
