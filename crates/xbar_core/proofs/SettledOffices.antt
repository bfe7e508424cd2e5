-- a lawful office that settles does so: each marker runs to its end in its turn, and then all are idle
use Rattle.std.proofs.Common.{◌≡◌, ◌≢◌, ℕ, ◌<◌, ◌⊎◌, Bool, true, false, length, inl, inr, refl, sym, ◌∙◌, ap, subst, arith, Option, Some, None, is_some}
use Rattle.std.proofs.Common.{if◌then◌else◌, slice_get}
use Rattle.{std.{specs.Prelude.⊤, proofs.lemmas.Option.{same_Some, slice_get_within}}, turns.specs.{Attempt.{act, begin_with, turn_in}, Bounds.IsAside}}
use Rattle.turns.{specs.{Runs.is_finished, World.{ActorOf, Idle, Does}, declared.phase.Phase.TheVariants.Operates}, proofs.{Lists.one_or_two, Moving.rest_bare}}
use Rattle.{xbar_plan.specs.{Tables.Tables, Lawful.IsLawful}, xbar_jobs.specs.{Attempt.Attempt, Jobs.first_conn, Office.office}}
use Rattle.xbar_core.{specs.Ends.{EachMakes, EndsIfPast, GivesBack, IsPast, RunsToEnd, Settles}, proofs.BegunJobs.given_back_begins}
use Rattle.xbar_core.proofs.{Ending.{IsIdleAt, stays_idle, steps_idle}, LawfulEnds.{aside_idle, past_idle}, Stages.{IsStage, each_does, each_keeps, each_made}}
use Rattle.{xbar_core.proofs.Stages.{one_settles, past_or_not}, xbar_moves.specs.Exchange.{Exchange, IsLawfulExchange, Marker, Work, is_idle, world}}
use Rattle.xbar_moves.specs.{Holding.IsAt, Moves.{given_at, given_back, given_by, steps}, Settling.{ended, ended_past_turn, for_each, most_steps_alone}}
use Rattle.xbar_moves.{specs.Settling.settled, proofs.{Backing.{Answers, answers, back_rests, gives}, GivenBack.others_stay}}
use Rattle.xbar_moves.proofs.{Jobs.{at_job_has, at_job_is, given_is, past_turn, work_at}, Keeping.{count_back, count_end, past_turn_keeps, steps_keep}}
use Rattle.xbar_moves.proofs.{Markers.{marker_there, none_within}, StepCases.{step_count, step_else}, Worlds.{idle_free, lawful_given_back, lawful_stepped}}
use mathlib.Core.Option.{some}
use lib.ListN.{get_elem?}
use Rattle.xbar_moves.specs.declared.event.Given.TheVariants as given
use Rattle.xbar_moves.specs.declared.event.Given.{Given}

-- all markers have this
abbrev AllAre : (Work → Type 0) → Exchange → Type 0
AllAre Done e = (j : ℕ) (m : Marker) → slice_get e.markers j ≡ Some m → Done m.work

-- nothing is left of a job, or its turn is still to come
abbrev NotPast : Work → Type 0
NotPast work = ¬ (given_by work ≡ given.PastTurn)

idle_not_past : (work : Work) → is_idle work ≡ true → NotPast work
idle_not_past work idle past = let told = subst (Answers work) past (answers work) in let both = sym idle ∙ told.0 in absurd cc

-- an idle marker is out of the way of the others
idle_aside : (plan : Tables) (work : Work) → is_idle work ≡ true → IsAside (office plan) work
idle_aside plan Idle idle = tt
idle_aside plan (Does n a) idle = let bare = rest_bare (office plan) a.phase a.job a.readings a.held a.reply a.effects (idle_free plan (Does n a) idle) in
    (bare.1, bare.2)

-- an attempt that marker k is at, past its turn
record IsPastAt (e : Exchange) (k : ℕ) : Type 0 where
  pub number : ℕ
  pub attempt : Attempt
  pub at : IsAt e k number attempt
  pub turn : ℕ
  pub past : attempt.phase ≡ Operates turn

module _ (e : Exchange) (k : ℕ) where
  -- a marker past its turn is at an attempt that is
  past_at : IsPast e k → IsPastAt e k
  past_at = at_job_has (λ what. what ≡ given.PastTurn → IsPastAt e k) given.Idle (λ m n a. given_by (Does n a)) e k (λ past. absurd cc)
      (λ n a at past. by n a at (turn_in a.phase) refl (subst (Answers (Does n a)) past (answers (Does n a))).1) where
        by : (n : ℕ) (a : Attempt) → IsAt e k n a → (turned : Option ℕ) → turn_in a.phase ≡ turned → is_some (turn_in a.phase) ≡ true → IsPastAt e k
        by n a at None is past = let both = sym past ∙ ap (is_some {T = ℕ}) is in absurd cc
        by n a at (Some turn) is past = record { number = n; attempt = a; at = at; turn = turn; past = past_turn a.phase turn is }

  module _ (plan : Tables) where
    abbrev ended_if : Bool → Exchange
    ended_if past = if past then ended plan k e else e

    -- and runs to its end
    past_ended : IsPast e k → ended_past_turn plan k e ≡ ended plan k e
    past_ended past =
        let found = past_at past in
        at_job_is e (λ m n a. ended_if (is_some (turn_in a.phase))) e k found.number found.attempt found.at
        ∙ ap (λ phase. ended_if (is_some (turn_in phase))) found.past

    -- any other is left alone
    past_alone : ¬ IsPast e k → ended_past_turn plan k e ≡ e
    past_alone not =
        at_job_has (λ x. x ≡ e) e (λ m n a. ended_if (is_some (turn_in a.phase))) e k refl
        (λ n a at. by n a at (is_some (turn_in a.phase)) (is_finished (act a)) refl refl) where
          by : (n : ℕ) (a : Attempt) (at : IsAt e k n a) (past rest : Bool) → is_some (turn_in a.phase) ≡ past → is_finished (act a) ≡ rest → ended_if past ≡ e
          by n a at false rest is goes = refl
          by n a at true true is rests = steps_idle plan k most_steps_alone e at.marker at.there (ap is_idle at.work ∙ rests)
          by n a at true false is goes =
              absurd (not (at_job_is given.Idle (λ m i b. given_by (Does i b)) e k n a at
              ∙ (λ i. if goes i then given.Idle else (if is i then given.PastTurn else given.Given))))

-- a marker that is idle after steps of it has run to its end
ran : (plan : Tables) (k count : ℕ) (before after : Exchange) → after ≡ steps plan k count before → IsIdleAt (steps plan k count before) k
    → RunsToEnd plan k before after
ran plan k count before after is end = record {
  count = count;
  steps_are = is;
  idle =
      λ m there. ap (λ (o : Marker). is_idle o.work) (same_Some m end.marker (sym there ∙ ap (λ (x : Exchange). slice_get x.markers k) is ∙ end.there))
      ∙ end.idle;
}

module _ (plan : Tables) (laws : IsLawful plan) where
  -- so it is with each in a lawful office
  ends_past : (k : ℕ) (e : Exchange) → IsLawfulExchange plan e → EndsIfPast plan k e (ended_past_turn plan k e)
  ends_past k e lawful = record {
    past = λ past.
        let found = past_at e k past in
        ran plan k most_steps_alone e (ended_past_turn plan k e) (past_ended e k plan past)
        (past_idle plan laws e lawful k found.number found.attempt found.at found.turn found.past);
    other = past_alone e k plan;
  }

  past_lawful : (k : ℕ) (e : Exchange) → IsLawfulExchange plan e → IsLawfulExchange plan (ended_past_turn plan k e)
  past_lawful k e lawful = past_turn_keeps plan (IsLawfulExchange plan) k (λ x is. lawful_stepped plan x k laws is) e lawful

  module _ (n : ℕ) where
    -- a lawful office of `n` markers, all of which have this
    record IsOffice (Done : Work → Type 0) (e : Exchange) : Type 0 where
      pub lawful : IsLawfulExchange plan e
      pub size : length e.markers ≡ n
      pub all : AllAre Done e

    abbrev Any : Work → Type 0
    Any work = ⊤

    -- with one marker made anew, all have what the others had and it has
    all_kept : (Done : Work → Type 0) (k : ℕ) (before after : Exchange) → ((j : ℕ) → j ≢ k → slice_get after.markers j ≡ slice_get before.markers j)
        → ((m : Marker) → slice_get after.markers k ≡ Some m → Done m.work) → AllAre Done before → AllAre Done after
    all_kept Done k before after others does all j m there = by (one_or_two j k) where
      by : (j ≡ k) ⊎ (j ≢ k) → Done m.work
      by (inl one) = does m (subst (λ (i : ℕ). slice_get after.markers i ≡ Some m) one there)
      by (inr two) = all j m (sym (others j two) ∙ there)

    -- an office after a number of steps of a marker
    record AreSteps (k : ℕ) (before after : Exchange) : Type 0 where
      pub count : ℕ
      pub is : after ≡ steps plan k count before

    if_past_steps : (k : ℕ) (before after : Exchange) → EndsIfPast plan k before after → AreSteps k before after
    unfolding steps
    if_past_steps k before after ends = elim (past_or_not before k) [
      | inl past ↦ let run = ends.past past in record { count = run.count; is = run.steps_are }
      | inr not ↦ record { count = 0; is = ends.other not }
    ]

    steps_lawful : (k : ℕ) (before after : Exchange) → AreSteps k before after → IsLawfulExchange plan before → IsLawfulExchange plan after
    steps_lawful k before after made lawful =
        subst (IsLawfulExchange plan) (sym made.is) (steps_keep plan (IsLawfulExchange plan) k (λ x is. lawful_stepped plan x k laws is) made.count before
        lawful)

    steps_size : (k : ℕ) (before after : Exchange) → AreSteps k before after → length after.markers ≡ length before.markers
    steps_size k before after made =
        ap (λ (x : Exchange). length x.markers) made.is
        ∙ steps_keep plan (λ x. length x.markers ≡ length before.markers) k (λ x is. step_count plan x k ∙ is) made.count before refl

    steps_else : (k j : ℕ) (before after : Exchange) → AreSteps k before after → j ≢ k → slice_get after.markers j ≡ slice_get before.markers j
    steps_else k j before after made two =
        ap (λ (x : Exchange). slice_get x.markers j) made.is
        ∙ steps_keep plan (λ x. slice_get x.markers j ≡ slice_get before.markers j) k (λ x is. step_else plan x k j two ∙ is) made.count before refl

    -- first none is past its turn any more
    first_done : (k : ℕ) (before after : Exchange) (m : Marker) → EndsIfPast plan k before after → slice_get after.markers k ≡ Some m → NotPast m.work
    first_done k before after m ends there = elim (past_or_not before k) [
      | inl past ↦ idle_not_past m.work ((ends.past past).idle m there)
      | inr not ↦ λ past. not (given_is before k m (ap (λ (x : Exchange). slice_get x.markers k) (sym (ends.other not)) ∙ there) ∙ past)
    ]

    first : IsStage (EndsIfPast plan) (IsOffice Any) NotPast
    first = record {
      keeps = λ k before after ends has.
          let made = if_past_steps k before after ends in
          record { lawful = steps_lawful k before after made has.lawful; size = steps_size k before after made ∙ has.size; all = λ j m there. tt };
      others = λ k j before after ends two. steps_else k j before after (if_past_steps k before after ends) two;
      does = λ k before after m ends has there. first_done k before after m ends there;
    }

    -- then all are out of one another's way
    abbrev Back : Work → Type 0
    Back work = IsAside (office plan) work × NotPast work

    begun_back : (number : ℕ) (a : Attempt) → Back (Does number (begin_with (first_conn a.job) a.job))
    begun_back number a = ((refl, refl), λ past. cc)

    second_done : (k : ℕ) (e : Exchange) (m : Marker) → AllAre NotPast e → slice_get (given_back plan k e).markers k ≡ Some m → Back m.work
    second_done k e m none there = by (given_at e k) refl where
      rests : ¬ (given_at e k ≡ given.Given) → slice_get e.markers k ≡ Some m
      rests not = ap (λ (x : Exchange). slice_get x.markers k) (sym (back_rests plan e k not)) ∙ there

      answered : (what : Given) → given_at e k ≡ what → slice_get e.markers k ≡ Some m → Answers m.work what
      answered what is at = subst (Answers m.work) (sym (given_is e k m at) ∙ is) (answers m.work)

      by : (what : Given) → given_at e k ≡ what → Back m.work
      by given.Given is =
          let has = gives plan e k is in
          let now = given_back_begins plan e k has.number has.attempt is has.at in
          subst Back (sym (work_at (given_back plan k e) k has.number _ m now there)) (begun_back has.number has.attempt)
      by given.PastTurn is = let at = rests (λ gives. let two = sym is ∙ gives in cc) in absurd (none k m at (sym (given_is e k m at) ∙ is))
      by given.Idle is =
          let at = rests (λ gives. let two = sym is ∙ gives in cc) in
          let idle = answered given.Idle is at in
          (idle_aside plan m.work idle, idle_not_past m.work idle)

    back_else : (k j : ℕ) (before after : Exchange) → GivesBack plan k before after → j ≢ k → slice_get after.markers j ≡ slice_get before.markers j
    back_else k j before after gives two = ap (λ (x : Exchange). slice_get x.markers j) gives ∙ others_stay plan before k j two

    second_does : (k : ℕ) (before after : Exchange) (m : Marker) → GivesBack plan k before after → IsOffice NotPast before → slice_get after.markers k ≡ Some m
        → Back m.work
    second_does k before after m gives has there = second_done k before m has.all (ap (λ (x : Exchange). slice_get x.markers k) (sym gives) ∙ there)

    second : IsStage (GivesBack plan) (IsOffice NotPast) Back
    second = record {
      keeps = λ k before after gives has. record {
        lawful = subst (IsLawfulExchange plan) (sym gives) (lawful_given_back plan before k laws has.lawful);
        size = ap (λ (x : Exchange). length x.markers) gives ∙ count_back plan k before ∙ has.size;
        all =
            all_kept NotPast k before after (λ j two. back_else k j before after gives two) (λ m there. (second_does k before after m gives has there).1)
            has.all;
      };
      others = λ k j before after gives two. back_else k j before after gives two;
      does = second_does;
    }

    -- and then each runs to its end
    ends_aside : (k : ℕ) (e : Exchange) → IsOffice (IsAside (office plan)) e → k < n → IsIdleAt (ended plan k e) k
    ends_aside k e has within = by (slice_get e.markers k) refl where
      others : (j : ℕ) (other : ActorOf (office plan)) → ¬ (j ≡ k) → get_elem? (world plan e).actors j ≡ some other → IsAside (office plan) other
      others j other two there = let found = marker_there e.markers j other there in subst (IsAside (office plan)) found.at (has.all j found.marker found.there)

      by_work : (now : Marker) (work : Work) → slice_get e.markers k ≡ Some now → now.work ≡ work → IsIdleAt (ended plan k e) k
      by_work now Idle there is = stays_idle plan k most_steps_alone e now there (ap is_idle is)
      by_work now (Does number a) there is =
          let aside : IsAside (office plan) (Does number a) = subst (IsAside (office plan)) is (has.all k now there) in
          aside_idle plan laws e k number a has.lawful (record { marker = now; there = there; work = is }) aside.0 others

      by : (found : Option Marker) → slice_get e.markers k ≡ found → IsIdleAt (ended plan k e) k
      by None there = let size = has.size in absurd (none_within e.markers k (omega (arith, size, within)) there)
      by (Some now) there = by_work now now.work there refl

    third_runs : (k : ℕ) (e : Exchange) → IsOffice (IsAside (office plan)) e → RunsToEnd plan k e (ended plan k e)
    third_runs k e has = record {
      count = most_steps_alone;
      steps_are = refl;
      idle = λ m there.
          let within = slice_get_within (ended plan k e).markers k m there in
          let same = count_end plan k e in
          let size = has.size in
          (ran plan k most_steps_alone e (ended plan k e) refl (ends_aside k e has (omega (arith, within, same, size)))).idle m there;
    }

    abbrev IsDone : Work → Type 0
    IsDone work = is_idle work ≡ true

    third : IsStage (RunsToEnd plan) (IsOffice (IsAside (office plan))) IsDone
    third = record {
      keeps = λ k before after runs has.
          let made : AreSteps k before after = record { count = runs.count; is = runs.steps_are } in
          record {
            lawful = steps_lawful k before after made has.lawful;
            size = steps_size k before after made ∙ has.size;
            all =
                all_kept (IsAside (office plan)) k before after (λ j two. steps_else k j before after made two)
                (λ m there. idle_aside plan m.work (runs.idle m there)) has.all;
          };
      others = λ k j before after runs two. steps_else k j before after (record { count = runs.count; is = runs.steps_are }) two;
      does = λ k before after m runs has there. runs.idle m there;
    }

    third_keeps : (k : ℕ) (e : Exchange) → IsOffice (IsAside (office plan)) e → IsOffice (IsAside (office plan)) (ended plan k e)
    third_keeps k e has = third.keeps k e (ended plan k e) (third_runs k e has) has

  -- once all have made a stage, they have what each has of it
  all_done : (Makes : ℕ → Exchange → Exchange → Type 0) (Has Done : Work → Type 0) (n : ℕ) (before after : Exchange) → IsStage Makes (IsOffice n Has) Done
      → EachMakes Makes n before after → IsOffice n Has before → IsOffice n Done after
  all_done Makes Has Done n before after stage made has =
      let kept = each_keeps Makes (IsOffice n Has) Done stage n before after made has in
      record {
        lawful = kept.lawful;
        size = kept.size;
        all = λ j m there.
            let within = slice_get_within after.markers j m there in
            let size = kept.size in
            each_does Makes (IsOffice n Has) Done stage n before after made has j m (omega (arith, within, size)) there;
      }

  module _ (e : Exchange) (lawful : IsLawfulExchange plan e) where
    abbrev n : ℕ
    n = length e.markers

    abbrev past : Exchange
    past = for_each (ended_past_turn plan) n e

    abbrev back : Exchange
    back = for_each (given_back plan) n past

    ends : EachMakes (EndsIfPast plan) n e past
    ends = each_made (EndsIfPast plan) (ended_past_turn plan) (IsLawfulExchange plan) past_lawful ends_past n e lawful

    gives_all : EachMakes (GivesBack plan) n past back
    gives_all = each_made (GivesBack plan) (given_back plan) (λ x. ⊤) (λ k x is. tt) (λ k x is. refl) n past tt

    aside : IsOffice n (IsAside (office plan)) back
    aside =
        let none = all_done (EndsIfPast plan) (Any n) NotPast n e past (first n) ends (record { lawful = lawful; size = refl; all = λ j m there. tt }) in
        let out = all_done (GivesBack plan) NotPast (Back n) n past back (second n) gives_all none in
        record { lawful = out.lawful; size = out.size; all = λ j m there. (out.all j m there).0 }

    runs : EachMakes (RunsToEnd plan) n back (settled plan e)
    runs = each_made (RunsToEnd plan) (ended plan) (IsOffice n (IsAside (office plan))) (third_keeps n) (third_runs n) n back aside

    -- an office that settles does so by those stages
    pub office_settles : Settles plan e (settled plan e)
    office_settles = record { ended = past; given = back; ends = ends; gives = gives_all; runs = runs }

    -- and then every marker is idle
    pub settled_idle : (k : ℕ) (m : Marker) → slice_get (settled plan e).markers k ≡ Some m → is_idle m.work ≡ true
    settled_idle = (all_done (RunsToEnd plan) (IsAside (office plan)) (IsDone n) n back (settled plan e) (third n) runs aside).all

  pub settles_so : (e other : Exchange) → Settles plan e other → IsLawfulExchange plan e → other ≡ settled plan e
  settles_so e other settles lawful = one_settles plan e other (settled plan e) settles (office_settles e lawful)
