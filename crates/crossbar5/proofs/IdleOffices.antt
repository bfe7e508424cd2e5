-- an office whose markers are all idle has settled: settling it changes nothing
use Rattle.std.proofs.Common.{◌≡◌, ◌⊎◌, inl, inr, ℕ, true, true≢false, List, refl, sym, ◌∙◌, ap, subst, None, slice_set}
use Rattle.turns.specs.{Attempt.{act, act_in, restarted, restarted_in}, Runs.is_finished, World.Does}
use Rattle.{turns.specs.declared.phase.Phase.TheVariants.{Requests, Seizes, Tests, Turns, Withdraws, GivesBack, Operates}, xbar_plan.specs.Tables.Tables}
use Rattle.xbar_jobs.specs.{Attempt.{Attempt, Phase}, Office.office}
use Rattle.xbar_moves.specs.{Exchange.{Exchange, Marker, is_idle}, Holding.IsAt, Moves.{after_step, with_work}, Settling.settled, declared.kinds.Kind.Kind}
use Rattle.xbar_moves.proofs.{Keeping.{KeepsRestarts, KeepsSteps, settled_keeps}, Markers.marker_same, StepCases.{IsMade, step_cases}}
use Rattle.{xbar_traffic.specs.declared.row.Row.Row, crossbar5.specs.{Look.AreIdle, Run.{Leaves, outcome, reached, settling}}}

-- a job of which nothing is left stays as it is where it is restarted
stays : (plan : Tables) (phase : Phase) (a : Attempt) → is_finished (act_in phase a) ≡ true → restarted_in (office plan) phase a ≡ a
stays plan (Requests lock) a over = absurd cc
stays plan (Seizes lock expected) a over = absurd cc
stays plan (Tests word) a over = absurd cc
stays plan Turns a over = absurd cc
stays plan (Withdraws lock) a over = refl
stays plan GivesBack a over = refl
stays plan (Operates turn) a over = refl

module _ (plan : Tables) (e : Exchange) (idle : AreIdle e) where
  abbrev Same : Exchange → Type 0
  Same x = x ≡ e

  is_over : (k n : ℕ) (a : Attempt) → IsAt e k n a → is_finished (act a) ≡ true
  is_over k n a at = sym (ap is_idle at.work) ∙ idle k at.marker at.there

  no_step : (k : ℕ) → after_step plan k e ≡ e
  no_step k = by (step_cases plan e k) where
    by : (after_step plan k e ≡ e) ⊎ IsMade plan e k (after_step plan k e) → after_step plan k e ≡ e
    by (inl same) = same
    by (inr made) =
        absurd (true≢false (sym (is_over k made.number made.attempt made.at) ∙ made.goes))

  no_restart : (k n : ℕ) (a : Attempt) (at : IsAt e k n a) → with_work k at.marker (Does n (restarted (office plan) a)) e ≡ e
  no_restart k n a at =
      let same : record at.marker { work = Does n (restarted (office plan) a) } ≡ at.marker =
      ap (λ (b : Attempt). record at.marker { work = Does n b }) (stays plan a.phase a (is_over k n a at))
      ∙ ap (λ work. record at.marker { work = work }) (sym at.work) in
      ap (λ (markers : List Marker). record e { markers = markers }) (ap (slice_set e.markers k) same ∙ marker_same e.markers k at.marker at.there)

  steps_same : (k : ℕ) → KeepsSteps plan Same k
  steps_same k x same = subst (λ (y : Exchange). after_step plan k y ≡ e) (sym same) (no_step k)

  restarts_same : (k : ℕ) → KeepsRestarts plan Same k
  restarts_same k x n a same =
      subst (λ (y : Exchange). (at : IsAt y k n a) → with_work k at.marker (Does n (restarted (office plan) a)) y ≡ e) (sym same) (no_restart k n a)

  pub idle_settled : settled plan e ≡ e
  idle_settled = settled_keeps plan Same steps_same restarts_same e refl

-- so a replay leaves the office that its rows lead to
pub idle_replayed : (plan : Tables) (kinds : List Kind) (rows : List Row) (e : Exchange) → reached plan kinds rows None ≡ Leaves e → AreIdle e
    → outcome plan kinds rows None ≡ Leaves e
idle_replayed plan kinds rows e came idle = ap (settling plan) came ∙ ap Leaves (idle_settled plan e idle)
