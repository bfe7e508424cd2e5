-- a desk that does one job
use Rattle.std.proofs.Common.{◌≡◌, ℕ, zero, suc, ◌+◌, ◌≤◌, ◌<◌, ◌^◌, Bool, false, true, arith, List, [], ◌∷◌, ◌++◌, append-nil, append_assoc, length, refl, sym}
use Rattle.std.proofs.Common.{◌∙◌, ap, subst, None, Option, Some, if◌then◌else◌, option_map, option_to_list, unwrap_or}
use Rattle.{std.proofs.lemmas.Option.same_Some, turns.specs.{Attempt.{begin_with, turn_in}, World.{Idle, Does}}, desks.specs.{Parts.Begins, Watching.watched_more}}
use Rattle.{xbar_office.specs.declared.{job.Job.Job, reply.{Record.Record, Reply.Reply}}, xbar_jobs.specs.Jobs.first_conn}
use Rattle.xbar_moves.specs.{Exchange.{Work, is_idle, on_job}, Moves.own_record, declared.event.Event.{Event, TheVariants.Finished}}
use Rattle.xbar_fabric.specs.{Advances.{MarkerHasAdvanced, MarkerHasRun}, Histories.{job_at, turned_of}, Reports.{MarkerHasWorked, ended, unreported}}
use Rattle.xbar_fabric.{specs.Views.{DeskView, FabricView, IsDeskOf, mine}, proofs.Reporting.one_of_both}
use Rattle.xbar_markers.specs.Work.{HasDone, HasMadeSteps, IsDoing}

-- what the laws of reports say of an advance
abbrev pub Reports : Type 0
Reports =
    (before after : DeskView) (event : Event) → is_idle before.work ≡ false
    → MarkerHasAdvanced before after event → MarkerHasWorked before after (ended after)

abbrev pub KeepsJob : Type 0
KeepsJob =
    (before after : DeskView) (event : Event) → MarkerHasAdvanced before after event
    → job_at after.work ≡ job_at before.work

abbrev pub ReportsJob : Type 0
ReportsJob =
    (before after : DeskView) (r : Record) → MarkerHasAdvanced before after (Finished r)
    → turned_of after ≡ r ∷ []

-- the steps of a run are steps
pub run_made : (count : ℕ) (before after : DeskView) → MarkerHasRun count before after → HasMadeSteps count before after
run_made zero before after same = same
run_made (suc count) before after (between, event, run, busy, asks, advanced) = (between, event, run_made count before between run, busy, advanced)

-- steps, and then further ones
pub steps_both : (count more : ℕ) (a b c : DeskView) → HasMadeSteps count a b → HasMadeSteps more b c → HasMadeSteps (count + more) a c
steps_both count zero a b c first second =
    let same : count ≡ count + zero = omega arith in
    subst (λ (n : ℕ). HasMadeSteps n a c) same (subst (HasMadeSteps count a) (sym second) first)
steps_both count (suc more) a b c first (between, event, made, busy, advanced) =
    let all : HasMadeSteps (suc (count + more)) a c = (between, event, steps_both count more a b between first made, busy, advanced) in
    let same : suc (count + more) ≡ count + suc more = omega arith in
    subst (λ (n : ℕ). HasMadeSteps n a c) same all

pub one_step : (before after : DeskView) (event : Event) → is_idle before.work ≡ false → MarkerHasAdvanced before after event
    → HasMadeSteps (suc zero) before after
one_step before after event busy advanced = (before, event, refl, busy, advanced)

-- a watch counts them one after another
pub watched_both : (count more : ℕ) (watched : Option ℕ) → watched_more more (watched_more count watched) ≡ watched_more (count + more) watched
watched_both count more None = refl
watched_both count more (Some n) =
    let same : n + count + more ≡ n + (count + more) = omega arith in
    ap Some same

-- if nothing is left of a job after its step and further ones, its record is there
pub ended_after : ReportsJob → (before between after : DeskView) (event : Event) → is_idle before.work ≡ false → MarkerHasAdvanced before between event
    → (count : ℕ) → HasMadeSteps count between after
    → is_idle after.work ≡ true → (r : Record) × (turned_of after ≡ r ∷ [])
ended_after reports before between after event busy advanced zero same idle =
    let told = advanced.ended busy (subst (λ (d : DeskView). is_idle d.work ≡ true) same idle) in
    let turned = reports before between told.0 (subst (MarkerHasAdvanced before between) told.1 advanced) in
    (told.0, subst (λ (d : DeskView). turned_of d ≡ told.0 ∷ []) (sym same) turned)
ended_after reports before between after event busy advanced (suc count) (last, its_event, made, its_busy, its_advanced) idle =
    let told = its_advanced.ended its_busy idle in
    (told.0, reports last after told.0 (subst (MarkerHasAdvanced last after) told.1 its_advanced))

-- a record, by what it is of
pub record IsOf (k : ℕ) (r : Record) (work : Work) : Type 0 where
  pub marker : r.marker ≡ k
  pub job : on_job ⊥ (λ number a. (r.job_no ≡ number) × (r.job ≡ a.job)) work

-- the record that a job has turned to is of its marker, and of the job
turned_is_of : (k : ℕ) (r : Record) (work : Work) → on_job [] (own_record k) work ≡ r ∷ [] → IsOf k r work
turned_is_of k r Idle is = absurd cc
turned_is_of k r (Does number a) is = by (turn_in a.phase) a.reply is where
  at : ℕ → Reply → Record
  at turn reply = record { turn = turn; marker = k; job_no = number; job = a.job; reply = reply }

  by : (turn : Option ℕ) (reply : Option Reply) → unwrap_or (option_map (λ (t : ℕ). option_to_list (option_map (at t) reply)) turn) [] ≡ r ∷ []
      → IsOf k r (Does number a)
  by None reply is = absurd cc
  by (Some turn) None is = absurd cc
  by (Some turn) (Some reply) is =
      let same : at turn reply ≡ r = cc in record {
        marker = sym (ap (λ (x : Record). x.marker) same);
        job = (sym (ap (λ (x : Record). x.job_no) same), sym (ap (λ (x : Record). x.job) same));
      }

-- and so is of the job that the desk is at
told_of_job : (number : ℕ) (job : Job) (r : Record) (work : Work) → job_at work ≡ Some (number, job) → on_job ⊥ (λ n a. (r.job_no ≡ n) × (r.job ≡ a.job)) work
    → (r.job_no ≡ number) × (r.job ≡ job)
told_of_job number job r Idle at reported = absurd reported
told_of_job number job r (Does n a) at reported =
    let same = same_Some (n, a.job) (number, job) at in
    (reported.0 ∙ ap (λ (p : ℕ × Job). p.0) same, reported.1 ∙ ap (λ (p : ℕ × Job). p.1) same)

module _ (number : ℕ) (job : Job) (start : DeskView) where
  -- a desk that was just assigned the job is at it
  pub assigned_now : (desk : DeskView) → desk ≡ record start { work = Does number (begin_with (first_conn job) job) } → IsDoing number job start desk
  assigned_now desk is = subst (IsDoing number job start) (sym is) (record {
    same = refl;
    seen = ([], sym (append-nil start.seen));
    mine_are = sym (append-nil (mine start));
    at = refl;
  })

  -- it is a desk of the same shared words
  pub stays_of : (desk : DeskView) (fabric : FabricView) → IsDoing number job start desk → IsDeskOf start fabric → IsDeskOf desk fabric
  stays_of desk fabric doing of = record {
    table_is = ap (λ (d : DeskView). d.table) doing.same ∙ of.table_is;
    plan_is = ap (λ (d : DeskView). d.plan) doing.same ∙ of.plan_is;
  }

  -- after one step more it is still at the job, or at its end
  pub goes_on : (desk after : DeskView) → IsDoing number job start desk → after ≡ record desk { work = after.work; seen = after.seen }
      → Begins desk.seen after.seen
      → mine after ≡ mine start ++ turned_of after → job_at after.work ≡ job_at desk.work → IsDoing number job start after
  goes_on desk after doing same grown mine_are stays = record {
    same = same ∙ ap (λ (d : DeskView). record d { work = after.work; seen = after.seen }) doing.same;
    seen = (doing.seen.0 ++ grown.0, grown.1 ∙ ap (λ (l : List Record). l ++ grown.0) doing.seen.1 ∙ append_assoc start.seen doing.seen.0 grown.0);
    mine_are = mine_are;
    at = stays ∙ doing.at;
  }

  -- by an advance
  pub advanced_on : Reports → KeepsJob → (desk after : DeskView) (event : Event) → IsDoing number job start desk → MarkerHasAdvanced desk after event
      → IsDoing number job start after
  advanced_on reports keeps desk after event doing advanced = by (is_idle desk.work) refl where
    by : (idle : Bool) → is_idle desk.work ≡ idle → IsDoing number job start after
    by true idle = subst (IsDoing number job start) (sym (advanced.idle idle).0) doing
    by false busy =
        let left : mine desk ≡ mine start ++ unreported desk =
        doing.mine_are ∙ ap (λ (idle : Bool). mine start ++ (if idle then [] else turned_of desk)) (sym busy) in
        goes_on desk after doing (advanced.stepped busy).same advanced.grown
        ((reports desk after event busy advanced).mine_are (mine start) left
        ∙ ap (λ (l : List Record). mine start ++ l) (one_of_both (is_idle after.work) (turned_of after)))
        (keeps desk after event advanced)

  -- and by as many as are made at once
  pub runs_on : Reports → KeepsJob → (count : ℕ) (desk after : DeskView) → IsDoing number job start desk → HasMadeSteps count desk after
      → IsDoing number job start after
  runs_on reports keeps zero desk after doing same = subst (IsDoing number job start) (sym same) doing
  runs_on reports keeps (suc count) desk after doing (between, event, made, busy, advanced) =
      advanced_on reports keeps between after event (runs_on reports keeps count desk between doing made) advanced

  -- at the end its own records are more by the job's
  pub mine_at_end : (after : DeskView) (r : Record) → IsDoing number job start after → turned_of after ≡ r ∷ [] → mine after ≡ mine start ++ r ∷ []
  mine_at_end after r doing ended = doing.mine_are ∙ ap (λ (l : List Record). mine start ++ l) ended

  -- and if nothing is left of the job, it is done
  pub has_done : (after : DeskView) (r : Record) → IsDoing number job start after → is_idle after.work ≡ true
      → turned_of after ≡ r ∷ [] → (length after.seen < 2 ^ 64 → (length start.seen ≤ r.turn) × (r.turn < length after.seen)) → HasDone start after number job r
  has_done after r doing idle ended turn =
      let is_of = turned_is_of after.marker r after.work ended in
      let of_job = told_of_job number job r after.work doing.at is_of.job in
      record {
        same = doing.same;
        idle = idle;
        seen = doing.seen;
        mine_are = mine_at_end after r doing ended;
        marker = is_of.marker ∙ ap (λ (d : DeskView). d.marker) doing.same;
        number_is = of_job.0;
        job_is = of_job.1;
        turn = turn;
      }
