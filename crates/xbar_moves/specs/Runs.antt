use Rattle.std.specs.Prelude.{ℕ, List, [], ◌∷◌, ⊤}
use Rattle.xbar_plan.specs.Tables.{Tables}
use Rattle.xbar_office.specs.Legal.{IsJob}
use Rattle.xbar_office.specs.declared.job.Job.{Job}
use Rattle.xbar_moves.specs.Exchange.{Exchange, fresh_exchange}
use Rattle.xbar_moves.specs.Moves.{assigned, restarted_at, given_back, refusal, after_step}
use Rattle.xbar_moves.specs.Settling.{settled}
use Rattle.xbar_moves.specs.declared.kinds.Kind.{Kind}
use Rattle.std.specs.Prelude.{Option, None, Some}
use Rattle.xbar_moves.specs.declared.kinds.AssignFault.{AssignFault}

-- a move of an office: a job is assigned to a marker under a number; a marker makes its next step,
-- has its job restarted, or gives back all that it holds at once; or the office settles
pub data Move : Type 0 where
  Assigns : ℕ → ℕ → Job → Move
  Steps : ℕ → Move
  Restarts : ℕ → Move
  GivesBack : ℕ → Move
  Settles : Move

-- the office after an assignment, or as it was before if that is refused
abbrev pub unless_refused : Option AssignFault → Exchange → Exchange → Exchange
unless_refused None now before = now
unless_refused (Some fault) now before = before

-- the office after a move; if an assignment is refused, or no marker has the number, nothing
-- changes
abbrev pub after_move : Tables → Exchange → Move → Exchange
after_move plan e (Assigns k number job) =
    unless_refused (refusal e k job) (assigned k number job e) e
after_move plan e (Steps k) = after_step plan k e
after_move plan e (Restarts k) = restarted_at plan k e
after_move plan e (GivesBack k) = given_back plan k e
after_move plan e Settles = settled plan e

-- the office after moves of any markers in any order
abbrev pub run_from : Tables → Exchange → List Move → Exchange
run_from plan e [] = e
run_from plan e (move ∷ moves) = run_from plan (after_move plan e move) moves

-- a new office with markers of these kinds, after these moves
abbrev pub run_of : Tables → List Kind → List Move → Exchange
run_of plan kinds moves = run_from plan (fresh_exchange kinds) moves

-- a job that is assigned is one of the office
abbrev pub IsMove : Move → Type 0
IsMove (Assigns k number job) = IsJob job
IsMove (Steps k) = ⊤
IsMove (Restarts k) = ⊤
IsMove (GivesBack k) = ⊤
IsMove Settles = ⊤

-- all jobs that these moves assign are jobs of the office
abbrev pub AreMoves : List Move → Type 0
AreMoves [] = ⊤
AreMoves (move ∷ moves) = IsMove move × AreMoves moves
