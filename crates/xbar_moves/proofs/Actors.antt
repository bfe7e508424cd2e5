-- markers are the actors of the office's world
use Rattle.std.proofs.Common.{◌≡◌, ℕ, ◌∙◌, ap}
use mathlib.Core.Option.{some}
use lib.ListN.{get_elem?}
use Rattle.{turns.specs.World.Does, xbar_jobs.specs.Attempt.Attempt, xbar_moves.specs.{Exchange.Exchange, Holding.IsAt}}
use Rattle.xbar_moves.proofs.Markers.{actor_there, marker_there, works}

module _ (e : Exchange) (k number : ℕ) (a : Attempt) where
  -- a marker at an attempt is the actor at it
  pub actor_at : IsAt e k number a → get_elem? (works e.markers) k ≡ some (Does number a)
  actor_at at = actor_there e.markers k at.marker at.there ∙ ap some at.work

  -- and the actor at an attempt is a marker at it
  pub marker_at : get_elem? (works e.markers) k ≡ some (Does number a) → IsAt e k number a
  marker_at there = let found = marker_there e.markers k (Does number a) there in record { marker = found.marker; there = found.there; work = found.at }
