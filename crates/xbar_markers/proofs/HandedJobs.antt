-- a desk whose job goes from one worker to another
use Rattle.std.proofs.Common.{◌≡◌, ◌≢◌, ℕ, ◌≤◌, ◌<◌, ◌^◌, Bool, false, true, Some, List, [], ◌∷◌, ◌++◌, append-nil, append_assoc, length, refl, sym, ◌∙◌, ap}
use Rattle.std.proofs.Common.{subst, None, Option, if◌then◌else◌, is_some}
use Rattle.{std.proofs.lemmas.Option.same_Some, turns.specs.{Attempt.{act, begin_with, turn_in}, Runs.is_finished, World.{Idle, Does}}}
use Rattle.{xbar_office.specs.declared.{job.Job.Job, reply.Record.Record}, xbar_jobs.specs.Jobs.first_conn}
use Rattle.xbar_moves.specs.{Exchange.{Work, is_idle}, Moves.given_by, declared.event.Event.TheVariants.Finished}
use Rattle.xbar_fabric.specs.{Advances.{MarkerHasAdvanced, MarkerHasGivenBack, at_beginning}, Histories.{job_at, turned_of}}
use Rattle.xbar_fabric.{specs.{Reports.{MarkerHasWorked, unreported}, Views.{DeskView, mine}}, proofs.Reporting.none_left}
use Rattle.xbar_markers.specs.{Handing.{HasGiven, IsTakenOver}, Work.{HasDone, HasMadeSteps, IsDoing, IsDoneOr, reported_record}, declared.handing.Then.Then}
use Rattle.xbar_markers.{specs.declared.handing.Then.TheVariants.GiveBack, proofs.{JobsInHand.{has_done, mine_at_end}, ToldRecords.told_end}}
use Rattle.xbar_moves.specs.declared.event.Given.TheVariants as given
use Rattle.xbar_markers.specs.Work as work
use Rattle.xbar_markers.specs.declared.handing.Handed.TheVariants as handed

-- a step that reported no record left its job under way
pub busy_on : (desk after : DeskView) (reported : Option Record) → is_idle desk.work ≡ false → work.WorkerHasStepped desk after reported → reported ≡ None
    → is_idle after.work ≡ false
busy_on desk after reported busy step none = by (is_idle after.work) refl where
  by : (idle : Bool) → is_idle after.work ≡ idle → is_idle after.work ≡ false
  by false goes = goes
  by true idle =
      let told = step.advanced.ended busy idle in
      let no : None ≡ Some told.0 = sym none ∙ step.told_is ∙ ap reported_record told.1 in
      absurd cc

-- a desk that gives back is at work
goes_given : (rests turned : Bool) → (if rests then given.Idle else (if turned then given.PastTurn else given.Given)) ≡ given.Given → rests ≡ false
goes_given true turned is = absurd cc
goes_given false turned is = refl

busy_given : (at : Work) → given_by at ≡ given.Given → is_idle at ≡ false
busy_given Idle gives = absurd cc
busy_given (Does number a) gives = goes_given (is_finished (act a)) (is_some (turn_in a.phase)) gives

module _ (number : ℕ) (job : Job) (start : DeskView) where
  -- the desk is at the job still, or has done it if the step reported a record
  pub done_or : (desk after : DeskView) (reported : Option Record) → IsDoing number job start after → work.WorkerHasStepped desk after reported
      → ((r : Record) → MarkerHasAdvanced desk after (Finished r) → turned_of after ≡ r ∷ [])
      → ((r : Record) → mine after ≡ mine start ++ r ∷ [] → length after.seen < 2 ^ 64 → (length start.seen ≤ r.turn) × (r.turn < length after.seen))
      → IsDoneOr number job start after reported
  done_or desk after None now step ends later = now
  done_or desk after (Some r) now step ends later =
      let advanced = subst (MarkerHasAdvanced desk after) (told_end step.event r step.told_is) step.advanced in
      let ended = ends r advanced in
      let reported = advanced.finished r refl in
      has_done number job start after r now reported.0 ended (later r (mine_at_end number job start after r now ended))

  -- the beginning of the job that a desk is at
  begins_its_job : (at : Work) → job_at at ≡ Some (number, job) → at_beginning at ≡ Does number (begin_with (first_conn job) job)
  begins_its_job Idle is = absurd cc
  begins_its_job (Does n a) is = ap (λ (p : ℕ × Job). Does p.0 (begin_with (first_conn p.1) p.1)) (same_Some (n, a.job) (number, job) is)

  -- a desk at the job that gives back, which is no turn
  pub has_given : (desk after : DeskView) → IsDoing number job start desk → after ≡ record desk { work = after.work; seen = after.seen }
      → given_by desk.work ≡ given.Given → MarkerHasGivenBack desk after
      → MarkerHasWorked desk after [] → HasGiven start after number job
  has_given desk after doing same gives back worked =
      let begins : after.work ≡ Does number (begin_with (first_conn job) job) = back.begins ∙ begins_its_job desk.work doing.at in
      let left : mine desk ≡ mine start ++ unreported desk =
      doing.mine_are ∙ ap (λ (idle : Bool). mine start ++ (if idle then [] else turned_of desk)) (sym (busy_given desk.work gives)) in
      let none : unreported after ≡ [] =
      ap (λ (at : Work). unreported (record after { work = at })) begins
      ∙ none_left (is_idle (Does number (begin_with (first_conn job) job))) [] refl in
      record {
        same = same
            ∙ ap (λ (d : DeskView). record d { work = after.work; seen = after.seen }) doing.same
            ∙ ap (λ (w : Work). record start { work = w; seen = after.seen }) begins;
        seen = (
          doing.seen.0 ++ worked.begins.0,
          worked.begins.1 ∙ ap (λ (l : List Record). l ++ worked.begins.0) doing.seen.1 ∙ append_assoc start.seen doing.seen.0 worked.begins.0,
        );
        mine_are = worked.mine_are (mine start) left ∙ ap (λ (l : List Record). mine start ++ l) none ∙ append-nil (mine start);
      }

-- a job that was left, and brought to its end
pub taken_over : (before : DeskView) (number : ℕ) (job : Job) (asked : Then) (left desk after : DeskView) (r : Record) → desk ≡ left
    → (asked ≡ GiveBack → given_by left.work ≢ given.Given) → IsDoing number job before left
    → ((start : DeskView) (n : ℕ) (j : Job) → IsDoing n j start desk → HasDone start after n j r) → (count : ℕ) × HasMadeSteps count desk after
    → IsTakenOver before number job asked left after (handed.Finished r)
taken_over before number job asked left desk after r same not doing done made = (
  not,
  done before number job (subst (IsDoing number job before) (sym same) doing),
  made.0,
  subst (λ (d : DeskView). HasMadeSteps made.0 d after) same made.1,
)
