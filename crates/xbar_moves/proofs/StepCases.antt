-- a step changes nothing, or it is the next step of an attempt
use Rattle.std.proofs.Common.{◌≡◌, ◌≢◌, ℕ, ◌⊎◌, Bool, true, false, length, length-set, inl, inr, refl, sym, ap, subst, ◌∙◌, if◌then◌else◌, slice_get}
use Rattle.{turns.specs.{Attempt.{act, change}, Runs.is_finished, World.Does, declared.answer.Answer.Answer}, xbar_plan.specs.Tables.Tables}
use Rattle.{xbar_jobs.specs.{Attempt.Attempt, Office.office}, xbar_moves.specs.{AtWork.answer_to_step, Exchange.{Exchange, Marker}, Holding.IsAt}}
use Rattle.xbar_moves.{specs.Moves.{after_answer, after_step}, proofs.{Jobs.{at_job_has, at_job_is}, Markers.{marker_else, marker_set}}}

-- marker k has a job, of which something is left, and the step makes this of the office
pub record IsMade (plan : Tables) (e : Exchange) (k : ℕ) (after : Exchange) : Type 0 where
  pub number : ℕ
  pub attempt : Attempt
  pub at : IsAt e k number attempt
  pub goes : is_finished (act attempt) ≡ false
  pub is : after ≡ after_answer plan k at.marker number attempt (answer_to_step k e.words attempt) e

module _ (plan : Tables) (e : Exchange) (k : ℕ) where
  -- nothing is made by an idle marker
  abbrev pub made_if : Bool → Marker → ℕ → Attempt → Exchange
  made_if idle m n a = if idle then e else after_answer plan k m n a (answer_to_step k e.words a) e

  pub step_cases : (after_step plan k e ≡ e) ⊎ IsMade plan e k (after_step plan k e)
  unfolding after_step
  step_cases = at_job_has Cases e (λ m n a. made_if (is_finished (act a)) m n a) e k (inl refl) (λ n a at. by n a at (is_finished (act a)) refl) where
    Cases : Exchange → Type 0
    Cases after = (after ≡ e) ⊎ IsMade plan e k after

    by : (n : ℕ) (a : Attempt) (at : IsAt e k n a) (idle : Bool) → is_finished (act a) ≡ idle → Cases (made_if idle at.marker n a)
    by n a at true rest = inl refl
    by n a at false rest = inr (record { number = n; attempt = a; at = at; goes = rest; is = refl })

  -- the step of an attempt
  pub step_at : (n : ℕ) (a : Attempt) (at : IsAt e k n a) → after_step plan k e ≡ made_if (is_finished (act a)) at.marker n a
  unfolding after_step
  step_at n a at = at_job_is e (λ m i b. made_if (is_finished (act b)) m i b) e k n a at

  -- and of one of which something is left
  pub step_made : (n : ℕ) (a : Attempt) (at : IsAt e k n a) → is_finished (act a) ≡ false
      → after_step plan k e ≡ after_answer plan k at.marker n a (answer_to_step k e.words a) e
  step_made n a at goes = step_at n a at ∙ ap (λ (idle : Bool). made_if idle at.marker n a) goes

-- and then it has gone on by its answer
pub now_at : (plan : Tables) (e : Exchange) (k n : ℕ) (a : Attempt) (told : Answer) (at : IsAt e k n a)
    → IsAt (after_answer plan k at.marker n a told e) k n (change (office plan) a told)
now_at plan e k n a told at = record {
  marker = record at.marker { work = Does n (change (office plan) a told) };
  there = marker_set e.markers k _ at.marker at.there;
  work = refl;
}

pub gone_on : (plan : Tables) (e : Exchange) (k n : ℕ) (a : Attempt) → IsAt e k n a → is_finished (act a) ≡ false
    → IsAt (after_step plan k e) k n (change (office plan) a (answer_to_step k e.words a))
gone_on plan e k n a at goes =
    let told = answer_to_step k e.words a in
    subst (λ (x : Exchange). IsAt x k n (change (office plan) a told)) (sym (step_made plan e k n a at goes)) (now_at plan e k n a told at)

-- as many markers stay
pub step_count : (plan : Tables) (e : Exchange) (k : ℕ) → length (after_step plan k e).markers ≡ length e.markers
step_count plan e k = elim (step_cases plan e k) [
  | inl same ↦ ap (λ (x : Exchange). length x.markers) same
  | inr made ↦ ap (λ (x : Exchange). length x.markers) made.is ∙ length-set e.markers k _
]

-- and all but marker k stay as they are
pub step_else : (plan : Tables) (e : Exchange) (k j : ℕ) → j ≢ k → slice_get (after_step plan k e).markers j ≡ slice_get e.markers j
step_else plan e k j other = elim (step_cases plan e k) [
  | inl same ↦ ap (λ (x : Exchange). slice_get x.markers j) same
  | inr made ↦ ap (λ (x : Exchange). slice_get x.markers j) made.is ∙ marker_else e.markers k j _ other
]
