use Rattle.std.proofs.Common.{◌≡◌, ℕ, ◌≤◌, Bool, true, false, List, [], ◌∷◌, refl, if◌then◌else◌}
use mathlib.Core.Option.{Option, some, none}
use lib.ListN.{get_elem?}
use Rattle.turns.specs.{System.{System, IsSystem}, Attempt.act, declared.act.Act.{Act, TheVariants.{Finished, Request, Seize, Withdraw, Test, Turn, Make}}}
use Rattle.turns.specs.{declared.act.Act.TheVariants.Free, World.{World, ActorOf, Idle, Does, assigned, fresh_world}, Law.{IsAvailable, Lawful}}
use Rattle.turns.specs.Runs.{Move, Assigns, Steps, Restarts, is_finished, is_available, assigned_at, stepped_at, restarted_at, after_move, run_from, run_of}
use Rattle.turns.{specs.Runs.{IsMove, AreMoves}, proofs.Moving.{opens, assigns, keeps, gives_back}}

pub rest_is : {Lock Effect : Type 0} (a : Act Lock Effect) → is_finished a ≡ true → a ≡ Finished
rest_is Finished e = refl
rest_is (Request lock) e = cc
rest_is (Seize lock expected) e = cc
rest_is (Withdraw lock) e = cc
rest_is (Test word) e = cc
rest_is Turn e = cc
rest_is (Make effect) e = cc
rest_is (Free lock) e = cc

module _ (O : System) (system : IsSystem O) where
  free_is : (m : ActorOf O) → is_available O m ≡ true → IsAvailable O m
  free_is Idle e = tt
  free_is (Does number a) e = rest_is (act a) e

  module _ (w : World O) (law : Lawful O w) (k : ℕ) where
    assigns_if : (number : ℕ) (job : O.Job) (m : ActorOf O) → O.IsJob job → get_elem? w.actors k ≡ some m → (t : Bool) → is_available O m ≡ t
        → Lawful O (if t then assigned O k number job w else w)
    assigns_if number job m is there true e = assigns O system w law k number m job there (free_is m e) is
    assigns_if number job m is there false e = law

    assigns_at : (number : ℕ) (job : O.Job) (found : Option (ActorOf O)) → O.IsJob job → get_elem? w.actors k ≡ found
        → Lawful O (assigned_at O k number job found w)
    assigns_at number job none is there = law
    assigns_at number job (some m) is there = assigns_if number job m is there (is_available O m) refl

    steps_at : (found : Option (ActorOf O)) → get_elem? w.actors k ≡ found → Lawful O (stepped_at O k found w)
    steps_at none there = law
    steps_at (some Idle) there = law
    steps_at (some (Does number a)) there = keeps O system w law k number a there

    backs_at : (found : Option (ActorOf O)) → get_elem? w.actors k ≡ found → Lawful O (restarted_at O k found w)
    backs_at none there = law
    backs_at (some Idle) there = law
    backs_at (some (Does number a)) there = gives_back O system w law k number a there

  pub made_lawful : (w : World O) (move : Move O.Job) → Lawful O w → IsMove O move → Lawful O (after_move O w move)
  made_lawful w (Assigns k number job) law is = assigns_at w law k number job (get_elem? w.actors k) is refl
  made_lawful w (Steps k) law is = steps_at w law k (get_elem? w.actors k) refl
  made_lawful w (Restarts k) law is = backs_at w law k (get_elem? w.actors k) refl

  pub run_lawful : (w : World O) (moves : List (Move O.Job)) → Lawful O w → AreMoves O moves → Lawful O (run_from O w moves)
  run_lawful w [] law are = law
  run_lawful w (move ∷ moves) law are = run_lawful (after_move O w move) moves (made_lawful w move law are.0) are.1

  -- every run is lawful
  pub runs : (count : ℕ) (moves : List (Move O.Job)) → count ≤ O.sharing.most → AreMoves O moves → Lawful O (run_of O count moves)
  runs count moves few are = run_lawful (fresh_world O count) moves (opens O system count few) are
