use Rattle.std.specs.Prelude.{◌≡◌, ℕ, ◌==◌, Bool, false, List, ◌++◌, count_by}
use mathlib.Core.Option.{some}
use lib.ListN.{get_elem?}
use Rattle.turns.specs.System.{System}
use Rattle.turns.specs.Attempt.{AttemptOf, act}
use Rattle.turns.specs.declared.act.Act.TheVariants.{Finished}
use Rattle.turns.specs.World.{World, Does}
use Rattle.turns.specs.Runs.{Move, Assigns, Steps, Restarts, run_from}
use Rattle.turns.specs.declared.phase.Phase.TheVariants.{Operates}

-- whether a move is a step of actor k
abbrev pub is_step_of : {Job : Type 0} → ℕ → Move Job → Bool
is_step_of k (Assigns j number job) = false
is_step_of k (Steps j) = j == k
is_step_of k (Restarts j) = false

-- how many of these moves are steps of actor k
abbrev pub own_steps : {Job : Type 0} → ℕ → List (Move Job) → ℕ
own_steps k moves = count_by (is_step_of k) moves

module _ (O : System) where
  -- after a first part of these moves actor k has ended the job of this turn: nothing is left of
  -- it
  pub record ComesToEnd (w : World O) (moves : List (Move O.Job)) (k number turn : ℕ) (job : O.Job)
      : Type 0 where
    pub before : List (Move O.Job)
    pub later : List (Move O.Job)
    pub split : moves ≡ before ++ later
    pub ended : AttemptOf O
    pub there : get_elem? (run_from O w before).actors k ≡ some (Does number ended)
    pub phase : ended.phase ≡ Operates turn
    pub job_is : ended.job ≡ job
    pub rests : act ended ≡ Finished
