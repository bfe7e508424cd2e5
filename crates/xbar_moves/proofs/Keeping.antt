-- what steps and restarts of markers keep, give backs and settlings keep
use Rattle.std.proofs.Common.{◌≡◌, ℕ, zero, suc, Bool, true, false, List, length, length-set, refl, sym, ◌∙◌, ap, subst, Some, is_some, if◌then◌else◌}
use Rattle.std.proofs.Common.{slice_get, slice_set}
use Rattle.{turns.specs.{Attempt.{restarted, turn_in}, World.{Idle, Does}}, xbar_plan.specs.Tables.Tables, xbar_jobs.specs.{Attempt.Attempt, Office.office}}
use Rattle.xbar_moves.specs.{Exchange.{Exchange, Marker, Work}, Holding.IsAt, Moves.{backed_as, restarted_at, frees_left, given_at, given_back, after_step}}
use Rattle.xbar_moves.specs.{Moves.{steps, with_work, restarted_work}, Settling.{ended, ended_past_turn, for_each, most_steps_alone, settled}}
use Rattle.xbar_moves.proofs.{Jobs.{at_job_has, at_marker_has}, Markers.marker_same, StepCases.step_count}
use Rattle.xbar_moves.specs.declared.event.Given.TheVariants as given
use Rattle.xbar_moves.specs.declared.event.Given.{Given}

-- marker k is at an attempt at the job of a number, and begins it anew
abbrev pub KeepsRestarts : Tables → (Exchange → Type 0) → ℕ → Type 0
KeepsRestarts plan Has k =
    (e : Exchange) (n : ℕ) (a : Attempt) → Has e → (at : IsAt e k n a) → Has (with_work k at.marker (Does n (restarted (office plan) a)) e)

abbrev pub KeepsSteps : Tables → (Exchange → Type 0) → ℕ → Type 0
KeepsSteps plan Has k = (e : Exchange) → Has e → Has (after_step plan k e)

-- what each change keeps, changes of many markers keep
pub for_each_keeps : (Has : Exchange → Type 0) (change : ℕ → Exchange → Exchange) → ((k : ℕ) (e : Exchange) → Has e → Has (change k e))
    → (count : ℕ) (e : Exchange) → Has e → Has (for_each change count e)
unfolding for_each
for_each_keeps Has change keeps zero e has = has
for_each_keeps Has change keeps (suc k) e has = keeps k (for_each change k e) (for_each_keeps Has change keeps k e has)

module _ (plan : Tables) (Has : Exchange → Type 0) (k : ℕ) (restart_keeps : KeepsRestarts plan Has k) where
  -- a marker that is to begin its job anew: an idle one stays as it is
  pub restarted_keeps : (e : Exchange) (m : Marker) → Has e → slice_get e.markers k ≡ Some m → Has (with_work k m (restarted_work plan m.work) e)
  restarted_keeps e m has there = by m.work refl where
    by : (work : Work) → m.work ≡ work → Has (with_work k m (restarted_work plan work) e)
    by Idle at =
        let same : record m { work = Idle } ≡ m = ap (λ (work : Work). record m { work = work }) (sym at) in
        subst (λ (markers : List Marker). Has (record e { markers = markers })) (sym (ap (slice_set e.markers k) same ∙ marker_same e.markers k m there)) has
    by (Does n a) at = restart_keeps e n a has (record { marker = m; there = there; work = at })

  -- and so wherever there is one of its number, or none
  pub restarts_keep : (e : Exchange) → Has e → Has (restarted_at plan k e)
  restarts_keep e has = at_marker_has Has e (λ m. with_work k m (restarted_work plan m.work) e) (slice_get e.markers k) has (λ m there. restarted_keeps e m has there)

module _ (plan : Tables) (Has : Exchange → Type 0) (k : ℕ) (step_keeps : KeepsSteps plan Has k) where
  -- several steps
  pub steps_keep : (count : ℕ) (e : Exchange) → Has e → Has (steps plan k count e)
  unfolding steps
  steps_keep zero e has = has
  steps_keep (suc count) e has = steps_keep count (after_step plan k e) (step_keeps e has)

  -- the end of a marker that is past its turn
  pub past_turn_keeps : (e : Exchange) → Has e → Has (ended_past_turn plan k e)
  past_turn_keeps e has =
      at_job_has Has e (λ m n a. if is_some (turn_in a.phase) then ended plan k e else e) e k has (λ n a at. by (is_some (turn_in a.phase))) where
        by : (turned : Bool) → Has (if turned then ended plan k e else e)
        by true = steps_keep most_steps_alone e has
        by false = has

  -- a give back
  pub back_keeps : KeepsRestarts plan Has k → (e : Exchange) → Has e → Has (given_back plan k e)
  unfolding given_back
  back_keeps restart_keeps e has = by (given_at e k) where
    by : (what : Given) → Has (backed_as what (steps plan k (frees_left e k) (restarted_at plan k e)) e)
    by given.Given = steps_keep (frees_left e k) (restarted_at plan k e) (restarts_keep plan Has k restart_keeps e has)
    by given.PastTurn = has
    by given.Idle = has

-- a settling
pub settled_keeps : (plan : Tables) (Has : Exchange → Type 0) → ((k : ℕ) → KeepsSteps plan Has k) → ((k : ℕ) → KeepsRestarts plan Has k) → (e : Exchange)
    → Has e → Has (settled plan e)
settled_keeps plan Has step_keeps restart_keeps e has =
    let count : ℕ = length e.markers in
    for_each_keeps Has (ended plan) (λ k x is. steps_keep plan Has k (step_keeps k) most_steps_alone x is) count _
    (for_each_keeps Has (given_back plan) (λ k x is. back_keeps plan Has k (step_keeps k) (restart_keeps k) x is) count _
    (for_each_keeps Has (ended_past_turn plan) (λ k x is. past_turn_keeps plan Has k (step_keeps k) x is) count e has))

-- as many markers stay
module _ (plan : Tables) (k : ℕ) where
  counted : (n : ℕ) → KeepsSteps plan (λ e. length e.markers ≡ n) k
  counted n e is = step_count plan e k ∙ is

  pub count_end : (e : Exchange) → length (ended plan k e).markers ≡ length e.markers
  count_end e = steps_keep plan (λ x. length x.markers ≡ length e.markers) k (counted (length e.markers)) most_steps_alone e refl

  pub count_past : (e : Exchange) → length (ended_past_turn plan k e).markers ≡ length e.markers
  count_past e = past_turn_keeps plan (λ x. length x.markers ≡ length e.markers) k (counted (length e.markers)) e refl

  pub count_back : (e : Exchange) → length (given_back plan k e).markers ≡ length e.markers
  count_back e = back_keeps plan (λ x. length x.markers ≡ length e.markers) k (counted (length e.markers)) (λ x n a is at. length-set x.markers k _ ∙ is) e refl
