use Rattle.std.specs.Prelude.{◌≡◌, ℕ, Bool, true, false, List, [], ◌∷◌, ⊤, if◌then◌else◌}
use mathlib.Core.Option.{Option, some, none}
use lib.ListN.{get_elem?}
use Rattle.turns.specs.System.{System}
use Rattle.turns.specs.Attempt.{act}
use Rattle.turns.specs.declared.act.Act.{Act}
use Rattle.turns.specs.declared.act.Act.TheVariants.{Finished}
use Rattle.turns.specs.World.{World, ActorOf, Idle, Does, moved, assigned, job_restarted, fresh_world}

-- a move: a job is assigned to an actor under a number, an actor makes its next step, or an actor
-- gives back
pub data Move (Job : Type 0) : Type 0 where
  Assigns : ℕ → ℕ → Job → Move Job
  Steps : ℕ → Move Job
  Restarts : ℕ → Move Job

-- the actor whose move it is
abbrev pub mover : {Job : Type 0} → Move Job → ℕ
mover (Assigns k number job) = k
mover (Steps k) = k
mover (Restarts k) = k

-- no move is one of these actors'
abbrev pub AreOfOthers : {Job : Type 0} → (ℕ → Bool) → List (Move Job) → Type 0
AreOfOthers lost [] = ⊤
AreOfOthers lost (move ∷ moves) = (lost (mover move) ≡ false) × AreOfOthers lost moves

abbrev pub is_finished : {Lock Effect : Type 0} → Act Lock Effect → Bool
is_finished Finished = true
is_finished _ = false

module _ (O : System) where
  abbrev pub is_available : ActorOf O → Bool
  is_available Idle = true
  is_available (Does number a) = is_finished (act a)

  -- a move of the actor with this number, if there is one; a job goes to an available actor only
  abbrev pub assigned_at : ℕ → ℕ → O.Job → Option (ActorOf O) → World O → World O
  assigned_at k number job none w = w
  assigned_at k number job (some m) w = if is_available m then assigned O k number job w else w

  abbrev pub stepped_at : ℕ → Option (ActorOf O) → World O → World O
  stepped_at k none w = w
  stepped_at k (some Idle) w = w
  stepped_at k (some (Does number a)) w = moved O k number a w

  abbrev pub restarted_at : ℕ → Option (ActorOf O) → World O → World O
  restarted_at k none w = w
  restarted_at k (some Idle) w = w
  restarted_at k (some (Does number a)) w = job_restarted O k number a w

  abbrev pub after_move : World O → Move O.Job → World O
  after_move w (Assigns k number job) = assigned_at k number job (get_elem? w.actors k) w
  after_move w (Steps k) = stepped_at k (get_elem? w.actors k) w
  after_move w (Restarts k) = restarted_at k (get_elem? w.actors k) w

  -- the world after moves of any actors, one after another
  abbrev pub run_from : World O → List (Move O.Job) → World O
  run_from w [] = w
  run_from w (move ∷ moves) = run_from (after_move w move) moves

  -- a run of `count` actors
  abbrev pub run_of : ℕ → List (Move O.Job) → World O
  run_of count moves = run_from (fresh_world O count) moves

  abbrev pub IsMove : Move O.Job → Type 0
  IsMove (Assigns k number job) = O.IsJob job
  IsMove (Steps k) = ⊤
  IsMove (Restarts k) = ⊤

  abbrev pub AreMoves : List (Move O.Job) → Type 0
  AreMoves [] = ⊤
  AreMoves (move ∷ moves) = IsMove move × AreMoves moves
