-- what holds of something of a marker, or of its job, whichever is there
use Rattle.std.proofs.Common.{◌≡◌, ℕ, refl, sym, ◌∙◌, ap, subst, Option, Some, None, slice_get}
use Rattle.{std.proofs.lemmas.Option.same_Some, turns.specs.{Attempt.{begin_with, restarted, turn_in}, World.{Idle, Does}}}
use Rattle.{turns.specs.declared.phase.Phase.TheVariants.{Requests, Seizes, Tests, Turns, Withdraws, GivesBack, Operates}, xbar_plan.specs.Tables.Tables}
use Rattle.{xbar_office.specs.declared.job.Job.Job, xbar_jobs.specs.{Attempt.{Attempt, Phase}, Jobs.first_conn, Office.office}}
use Rattle.xbar_moves.specs.{Exchange.{Exchange, Marker, Work, at_marker, on_job}, Holding.IsAt}
use Rattle.xbar_moves.{specs.Moves.{assigned, restarted_at, given_at, given_by, with_work, restarted_work}, proofs.Markers.marker_set}
use Rattle.xbar_moves.specs.declared.event.Given.TheVariants as given

pub at_marker_has : {A : Type 0} (Has : A → Type 0) (otherwise : A) (of_marker : Marker → A) (found : Option Marker)
    → Has otherwise → ((m : Marker) → found ≡ Some m → Has (of_marker m)) → Has (at_marker otherwise of_marker found)
at_marker_has Has otherwise of_marker None none there = none
at_marker_has Has otherwise of_marker (Some m) none there = there m refl

pub on_job_has : {A : Type 0} (Has : A → Type 0) (otherwise : A) (of_job : ℕ → Attempt → A) (work : Work)
    → Has otherwise → ((n : ℕ) (a : Attempt) → work ≡ Does n a → Has (of_job n a)) → Has (on_job otherwise of_job work)
on_job_has Has otherwise of_job Idle none does = none
on_job_has Has otherwise of_job (Does n a) none does = does n a refl

pub at_job_has : {A : Type 0} (Has : A → Type 0) (otherwise : A) (of_job : Marker → ℕ → Attempt → A) (e : Exchange) (k : ℕ)
    → Has otherwise → ((n : ℕ) (a : Attempt) (at : IsAt e k n a) → Has (of_job at.marker n a))
    → Has (at_marker otherwise (λ m. on_job otherwise (of_job m) m.work) (slice_get e.markers k))
at_job_has Has otherwise of_job e k none does =
    at_marker_has Has otherwise (λ m. on_job otherwise (of_job m) m.work) (slice_get e.markers k) none
    (λ m there. on_job_has Has otherwise (of_job m) m.work none (λ n a is. does n a (record { marker = m; there = there; work = is })))

-- something of the job that is there
pub at_job_is : {A : Type 0} (otherwise : A) (of_job : Marker → ℕ → Attempt → A) (e : Exchange) (k n : ℕ) (a : Attempt) (at : IsAt e k n a)
    → at_marker otherwise (λ m. on_job otherwise (of_job m) m.work) (slice_get e.markers k) ≡ of_job at.marker n a
at_job_is otherwise of_job e k n a at =
    ap (at_marker otherwise (λ m. on_job otherwise (of_job m) m.work)) at.there ∙ ap (on_job otherwise (of_job at.marker)) at.work

module _ (e : Exchange) (k : ℕ) (m : Marker) (there : slice_get e.markers k ≡ Some m) where
  -- a job goes to the marker that is there
  pub assigned_is : (n : ℕ) (job : Job) → assigned k n job e ≡ with_work k m (Does n (begin_with (first_conn job) job)) e
  assigned_is n job = ap (at_marker e (λ o. with_work k o (Does n (begin_with (first_conn job) job)) e)) there

  -- it begins anew, and it is asked whether it gives back
  pub restarted_is : (plan : Tables) → restarted_at plan k e ≡ with_work k m (restarted_work plan m.work) e
  restarted_is plan = ap (at_marker e (λ o. with_work k o (restarted_work plan o.work) e)) there

  pub given_is : given_at e k ≡ given_by m.work
  given_is = ap (at_marker given.Idle (λ o. given_by o.work)) there

-- so a job that is there begins anew
pub restarted_at_is : (plan : Tables) (e : Exchange) (k n : ℕ) (a : Attempt) (at : IsAt e k n a)
    → restarted_at plan k e ≡ with_work k at.marker (Does n (restarted (office plan) a)) e
restarted_at_is plan e k n a at = restarted_is e k at.marker at.there plan ∙ ap (λ (work : Work). with_work k at.marker (restarted_work plan work) e) at.work

-- a marker is at one attempt
pub work_at : (e : Exchange) (k n : ℕ) (a : Attempt) (m : Marker) → IsAt e k n a → slice_get e.markers k ≡ Some m → m.work ≡ Does n a
work_at e k n a m at there = ap (λ (o : Marker). o.work) (same_Some m at.marker (sym there ∙ at.there)) ∙ at.work

pub one_job : (e : Exchange) (k n j : ℕ) (a b : Attempt) → IsAt e k n a → IsAt e k j b → (n ≡ j) × (a ≡ b)
one_job e k n j a b at other =
    let both : ◌≡◌ {A = Work} (Does n a) (Does j b) = sym (work_at e k n a other.marker at other.there) ∙ other.work in
    (cc, cc)

-- and once it is set to one, it is at that
pub set_at : (e : Exchange) (k n : ℕ) (m : Marker) (a : Attempt) → slice_get e.markers k ≡ Some m → IsAt (with_work k m (Does n a) e) k n a
set_at e k n m a there = record { marker = record m { work = Does n a }; there = marker_set e.markers k _ m there; work = refl }

pub restarted_job : (plan : Tables) (e : Exchange) (k n : ℕ) (a : Attempt) → IsAt e k n a → IsAt (restarted_at plan k e) k n (restarted (office plan) a)
restarted_job plan e k n a at =
    subst (λ (x : Exchange). IsAt x k n (restarted (office plan) a)) (sym (restarted_at_is plan e k n a at))
    (set_at e k n at.marker (restarted (office plan) a) at.there)

-- what has turned is past its turn
pub past_turn : (phase : Phase) (turn : ℕ) → turn_in phase ≡ Some turn → phase ≡ Operates turn
past_turn (Operates number) turn is = cc
past_turn (Requests conn) turn is = absurd cc
past_turn (Seizes conn expected) turn is = absurd cc
past_turn (Tests word) turn is = absurd cc
past_turn Turns turn is = absurd cc
past_turn (Withdraws conn) turn is = absurd cc
past_turn GivesBack turn is = absurd cc
