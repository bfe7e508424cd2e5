-- what a marker's step makes of the words and the records
use Rattle.std.proofs.Common.{◌≡◌, ℕ, Bool, true, false, List, [], ◌++◌, refl, sym, ◌∙◌, ap, append-nil, if◌then◌else◌}
use Rattle.{turns.{specs.{Attempt.{act, change}, declared.act.Act.TheVariants.Finished, Runs.is_finished}, proofs.Runs.rest_is}, xbar_plan.specs.Tables.Tables}
use Rattle.{xbar_office.specs.declared.reply.Record.Record, xbar_jobs.specs.{Attempt.{Attempt, step_of}, Office.office, OnWords.answer_of}}
use Rattle.xbar_moves.specs.{AtWork.answer_to_step, Exchange.Exchange, Holding.IsAt, Moves.{event_at_step, event_of, added_record, after_step}}
use Rattle.xbar_moves.{specs.declared.event.Event.Event, proofs.{Jobs.at_job_has, StepCases.{made_if, step_at}}}
use Rattle.xbar_moves.specs.declared.event.Event.TheVariants as event

module _ (plan : Tables) (e : Exchange) (k number : ℕ) (a : Attempt) (at : IsAt e k number a) where
  -- at rest nothing is recorded
  rest_adds : act a ≡ Finished → added_record k number a (answer_to_step k e.words a) ≡ []
  rest_adds idle = ap (λ next. added_record k number a (answer_of k (step_of next) e.words)) idle

  -- a step adds the record of its turn, if it is one
  pub step_adds : (after_step plan k e).records ≡ e.records ++ added_record k number a (answer_to_step k e.words a)
  step_adds = ap (λ (after : Exchange). after.records) (step_at plan e k number a at) ∙ by (is_finished (act a)) refl where
    by : (idle : Bool) → is_finished (act a) ≡ idle
        → (made_if plan e k idle at.marker number a).records ≡ e.records ++ added_record k number a (answer_to_step k e.words a)
    by true idle = sym (ap (λ (more : List Record). e.records ++ more) (rest_adds (rest_is (act a) idle)) ∙ append-nil e.records)
    by false idle = refl

-- what comes of a step that is one comes of its answer
pub record HasCome (plan : Tables) (e : Exchange) (k : ℕ) (what : Event) : Type 0 where
  pub number : ℕ
  pub attempt : Attempt
  pub at : IsAt e k number attempt
  pub comes : event_of k number attempt (change (office plan) attempt (answer_to_step k e.words attempt)) (answer_to_step k e.words attempt) ≡ what

pub has_come : (plan : Tables) (e : Exchange) (k : ℕ) (what : Event) → (what ≡ event.Idle → ⊥) → event_at_step plan k e ≡ what → HasCome plan e k what
has_come plan e k what busy = at_job_has Comes event.Idle (λ m n a. made (is_finished (act a)) n a) e k idle (λ n a at. by n a at (is_finished (act a))) where
  Comes : Event → Type 0
  Comes event = event ≡ what → HasCome plan e k what

  idle : Comes event.Idle
  idle ends = absurd (busy (sym ends))

  made : Bool → ℕ → Attempt → Event
  made rest n a = if rest then event.Idle else event_of k n a (change (office plan) a (answer_to_step k e.words a)) (answer_to_step k e.words a)

  by : (n : ℕ) (a : Attempt) → IsAt e k n a → (rest : Bool) → Comes (made rest n a)
  by n a at true = idle
  by n a at false = λ ends. record { number = n; attempt = a; at = at; comes = ends }
