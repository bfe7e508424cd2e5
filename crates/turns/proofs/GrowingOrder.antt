-- whatever moves are made, the order before them begins the order after them
use Rattle.std.proofs.Common.{◌≡◌, ℕ, Bool, true, false, List, [], ◌∷◌, ◌++◌, append-nil, append_assoc, refl, sym, ap, ◌∙◌, if◌then◌else◌}
use mathlib.Core.Option.{Option, some, none}
use lib.ListN.{get_elem?}
use Rattle.turns.specs.{System.System, World.{World, ActorOf, RecordOf, Idle, Does, added, assigned}}
use Rattle.turns.specs.Runs.{Move, Assigns, Steps, Restarts, is_available, assigned_at, stepped_at, restarted_at, after_move, run_from}

module _ (O : System) where
  -- the order of one world begins that of another
  abbrev Grows : World O → World O → Type 0
  Grows w after = (later : List (RecordOf O)) × (after.order ≡ w.order ++ later)

  grows_by_none : (w : World O) → Grows w w
  grows_by_none w = ([], sym (append-nil w.order))

  assigned_grows : (w : World O) (k number : ℕ) (job : O.Job) (found : Option (ActorOf O))
      → Grows w (assigned_at O k number job found w)
  assigned_grows w k number job none = grows_by_none w
  assigned_grows w k number job (some m) = by (is_available O m) where
    by : (free : Bool) → Grows w (if free then assigned O k number job w else w)
    by true = grows_by_none w
    by false = grows_by_none w

  stepped_grows : (w : World O) (k : ℕ) (found : Option (ActorOf O))
      → Grows w (stepped_at O k found w)
  stepped_grows w k none = grows_by_none w
  stepped_grows w k (some Idle) = grows_by_none w
  stepped_grows w k (some (Does number a)) = (added O k number a w, refl)

  backed_grows : (w : World O) (k : ℕ) (found : Option (ActorOf O))
      → Grows w (restarted_at O k found w)
  backed_grows w k none = grows_by_none w
  backed_grows w k (some Idle) = grows_by_none w
  backed_grows w k (some (Does number a)) = grows_by_none w

  pub move_grows : (w : World O) (move : Move O.Job) → Grows w (after_move O w move)
  move_grows w (Assigns k number job) = assigned_grows w k number job (get_elem? w.actors k)
  move_grows w (Steps k) = stepped_grows w k (get_elem? w.actors k)
  move_grows w (Restarts k) = backed_grows w k (get_elem? w.actors k)

  pub run_grows : (w : World O) (moves : List (Move O.Job)) → Grows w (run_from O w moves)
  run_grows w [] = grows_by_none w
  run_grows w (move ∷ moves) =
      let first = move_grows w move in
      let rest = run_grows (after_move O w move) moves in
      let more = ap (λ (order : List (RecordOf O)). order ++ rest.0) first.1 in
      (first.0 ++ rest.0, rest.1 ∙ more ∙ append_assoc w.order first.0 rest.0)
