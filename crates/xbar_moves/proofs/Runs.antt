-- whatever moves markers make, the office that they come to is lawful
use Rattle.std.proofs.Common.{◌≡◌, ℕ, ◌≤◌, List, [], ◌∷◌, length, refl, Option, Some, None}
use Rattle.{xbar_plan.specs.{Tables.Tables, Lawful.IsLawful}, xbar_office.specs.{Legal.IsJob, declared.job.Job.Job}, xbar_moves.specs.Exchange.Exchange}
use Rattle.xbar_moves.specs.{Exchange.{IsLawfulExchange, fresh_exchange}, Moves.{assigned, refusal}, Runs.{AreMoves, Assigns, Restarts, GivesBack, IsMove}}
use Rattle.xbar_moves.specs.{Runs.{Move, Settles, Steps, after_move, run_from, run_of, unless_refused}, declared.kinds.{AssignFault.AssignFault, Kind.Kind}}
use Rattle.xbar_moves.proofs.Worlds.{lawful_assigned, lawful_restarted, lawful_given_back, lawful_opened, lawful_settled, lawful_stepped}

module _ (plan : Tables) (laws : IsLawful plan) where
  -- a job that is refused is not assigned
  assigns_lawful : (e : Exchange) (k number : ℕ) (job : Job) (why : Option AssignFault) → IsLawfulExchange plan e → IsJob job → refusal e k job ≡ why
      → IsLawfulExchange plan (unless_refused why (assigned k number job e) e)
  assigns_lawful e k number job None lawful range free = lawful_assigned plan e k number job laws lawful range free
  assigns_lawful e k number job (Some fault) lawful range refused = lawful

  made_lawful : (e : Exchange) (move : Move) → IsLawfulExchange plan e → IsMove move → IsLawfulExchange plan (after_move plan e move)
  made_lawful e (Assigns k number job) lawful range = assigns_lawful e k number job (refusal e k job) lawful range refl
  made_lawful e (Steps k) lawful range = lawful_stepped plan e k laws lawful
  made_lawful e (Restarts k) lawful range = lawful_restarted plan e k laws lawful
  made_lawful e (GivesBack k) lawful range = lawful_given_back plan e k laws lawful
  made_lawful e Settles lawful range = lawful_settled plan e laws lawful

  runs_lawful : (e : Exchange) (moves : List Move) → IsLawfulExchange plan e → AreMoves moves → IsLawfulExchange plan (run_from plan e moves)
  runs_lawful e [] lawful are = lawful
  runs_lawful e (move ∷ moves) lawful are = runs_lawful (after_move plan e move) moves (made_lawful e move lawful are.0) are.1

  -- every run is lawful
  pub run_lawful : (kinds : List Kind) (moves : List Move) → length kinds ≤ 48 → AreMoves moves → IsLawfulExchange plan (run_of plan kinds moves)
  run_lawful kinds moves few are = runs_lawful (fresh_exchange kinds) moves (lawful_opened plan kinds laws few) are
