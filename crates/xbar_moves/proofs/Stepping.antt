-- what a step of a marker comes to
use Rattle.std.proofs.Common.{◌≡◌, ℕ, Bool, true, refl, sym, ◌∙◌, ap, Some, slice_get}
use Rattle.{turns.specs.{Attempt.act, Runs.is_finished, World.{Idle, Does}}, xbar_plan.specs.Tables.Tables, xbar_moves.specs.Exchange.{Exchange, Marker, Work}}
use Rattle.xbar_moves.{specs.{Exchange.{at_marker, is_idle, on_job}, Moves.{event_at_step, event_by, after_step}}, proofs.StepCases.made_if}
use Rattle.xbar_moves.specs.declared.event.Event.TheVariants as event

module _ (plan : Tables) (e : Exchange) (k : ℕ) (m : Marker) (there : slice_get e.markers k ≡ Some m) where
  -- an idle marker makes no step
  pub step_idle : is_idle m.work ≡ true → after_step plan k e ≡ e
  unfolding after_step
  step_idle idle = ap (at_marker e (λ o. on_job e (λ n a. made_if plan e k (is_finished (act a)) o n a) o.work)) there ∙ by m.work idle where
    by : (work : Work) → is_idle work ≡ true → on_job e (λ n a. made_if plan e k (is_finished (act a)) m n a) work ≡ e
    by Idle is = refl
    by (Does n a) is = ap (λ (idle : Bool). made_if plan e k idle m n a) is

  -- the event of a step depends on the marker's work
  pub event_there : event_by plan k e.words m.work ≡ event_at_step plan k e
  event_there = ap (at_marker event.Idle (λ o. event_by plan k e.words o.work)) (sym there)
