-- a program's attempt is one of the office, and valid
use Rattle.std.proofs.Common.{◌≡◌, ℕ, zero, suc, List, [], ◌∷◌, inl, inr, refl, sym, ◌∙◌, ap, subst, arith, Option, Some, None, IsSome, drop}
use Rattle.turns.specs.Attempt.{IsAnswerTo, IsValidIn, act, act_in, begin_with, change, closing_act, forgotten, free_act, giving_back, restarted, restarted_in}
use Rattle.turns.specs.declared.{act.Act.TheVariants.{Finished, Request, Seize, Withdraw, Free, Test, Turn, Make}, answer.Answer.Answer}
use Rattle.turns.specs.declared.answer.Answer.TheVariants.{Turn as Turned}
use Rattle.turns.specs.declared.phase.Phase.TheVariants.{Requests, Seizes, Tests, Turns, Withdraws, GivesBack, Operates}
use Rattle.turns.{specs.{declared.lock_sharing.LockSharing.TheVariants.Preferring, System.DecidesUnder}, proofs.Keeping.WalkFits}
use Rattle.{turns.proofs.Standing.{come_fits, wanted_lock}, attempts.specs.{WalkOnWords.LeadsTo, Validity.{AreScripts, ResumePointIsValidIn, effects_left}}}
use Rattle.{attempts.{specs.SystemWith.without_decisions, proofs.Walking.known_anywhere}, xbar_equip.specs.{Conn.{IsConn, conn_eq}, declared.conn.Conn.Conn}}
use Rattle.{xbar_plan.specs.{Lawful.IsLawful, Tables.Tables}, xbar_office.specs.{Legal.IsJob, declared.job.Job.{Job, TheVariants.{Dial, Complete, Release}}}}
use Rattle.xbar_jobs.specs.{Attempt.{Act, Attempt, Counted, Phase, fresh, step_of, with_count}, Closing.{effects as effects_of}, Jobs.{first_conn, job_line}}
use Rattle.xbar_jobs.specs.{Keeping.AreEffects, Office.{office, office_over}, Script.Seen, Standing.{AreConns, Doing, HasReplyIn, IsAttempt, IsPhase, IsValid}}
use Rattle.xbar_jobs.specs.{Standing.{attempt_at, reply_of, most_readings, most_seizings}, Tracing.ResumePointIsValid, Turning.{DoesAsOffice, IsAct, IsStep}}
use Rattle.xbar_jobs.specs.declared.{decision.Decision.Decision, effect.Effect.{Effect, TheVariants.{Close, Open, SetBit, ClearBit}}}
use Rattle.xbar_jobs.{specs.declared.walk.WalkProgress.WalkProgress, proofs.{AttemptStands.{stands_after, stands_led}, CompletingRows.known_on}}
use Rattle.xbar_jobs.proofs.{JobBounds.jobs_bounded, JobTurns.turn_does, OfficeSystem.office_is}
use Rattle.attempts.specs.Validity as standing

-- the step that makes an act is on what there is too
pub act_step : (a : Act) → IsAct a → IsStep (step_of a)
act_step Finished range = tt
act_step (Request conn) range = range
act_step (Seize conn expected) range = range
act_step (Withdraw conn) range = range
act_step (Free conn) range = range
act_step (Test word) range = range
act_step Turn range = tt
act_step (Make (Close c)) range = omega (arith, range.word)
act_step (Make (Open c)) range = omega (arith, range.word)
act_step (Make (SetBit group index)) range = omega (arith, range.0)
act_step (Make (ClearBit group index)) range = omega (arith, range.0)

free_range : (held : List Conn) → AreConns held → IsAct (free_act held)
free_range [] conns = tt
free_range (conn ∷ held) conns = conns conn (inl refl)

closing_range : (effects : List Effect) (held : List Conn) → AreEffects effects → AreConns held → IsAct (closing_act effects held)
closing_range [] held are conns = free_range held conns
closing_range (effect ∷ effects) held are conns = are effect (inl refl)

-- an attempt of the office acts on what there is
pub act_range : (a : Attempt) → IsAttempt a → IsAct (act a)
act_range a is = at a.phase is.phase where
  at : (phase : Phase) → IsPhase phase → IsAct (act_in phase a)
  at (Requests conn) range = range
  at (Seizes conn expected) range = range
  at (Tests word) range = range
  at Turns range = tt
  at (Withdraws conn) range = range
  at GivesBack range = free_range a.held is.held
  at (Operates turn) range = closing_range a.effects a.held is.effects is.held

pub made_range : (a : Attempt) (one : Act) → IsAttempt a → one ≡ act a → IsAct one
made_range a one is same = subst IsAct (sym same) (act_range a is)

-- the effects that are left are among those of the decision
dropped : (n : ℕ) (effects : List Effect) → AreEffects effects → AreEffects (drop n effects)
dropped zero effects are = are
dropped (suc n) [] are = are
dropped (suc n) (effect ∷ effects) are = dropped n effects (λ other within. are other (inr within))

pub left_effects : (decision : Option Decision) (d : Decision) (made : ℕ) → decision ≡ Some d → AreEffects (effects_of d)
    → AreEffects (effects_left effects_of decision made)
left_effects decision d made is are = subst (λ (o : Option Decision). AreEffects (effects_left effects_of o made)) (sym is) (dropped made (effects_of d) are)

pub none_left : (decision : Option Decision) (made : ℕ) → decision ≡ None → AreEffects (effects_left effects_of decision made)
none_left decision made is = subst (λ (o : Option Decision). AreEffects (effects_left effects_of o made)) (sym is) (λ effect none. absurd none)

-- a valid attempt is one of the office
module _ (plan : Tables) (laws : IsLawful plan) where
  phase_range : (a : Attempt) (phase : Phase) → IsValid plan a → IsValidIn (office plan) a phase → IsPhase phase
  phase_range a (Requests conn) valid comes = wanted_lock (office plan) (office_is plan laws) a conn valid.place.job valid.place.read comes
  phase_range a (Seizes conn expected) valid comes = wanted_lock (office plan) (office_is plan laws) a conn valid.place.job valid.place.read comes
  phase_range a (Tests word) valid comes =
      let under =
      subst (WalkFits (office plan) (DecidesUnder (office plan)) a.held) comes
      (come_fits (office plan) (office_is plan laws) a valid.place.job valid.place.read) in
      (office_is plan laws).words.word_there word under.lock under.protects
  phase_range a Turns valid comes = tt
  phase_range a (Withdraws conn) valid comes = comes
  phase_range a GivesBack valid comes = tt
  phase_range a (Operates turn) valid comes = tt

  has_reply : (a : Attempt) (phase : Phase) → IsValidIn (office plan) a phase → HasReplyIn phase a.reply
  has_reply a (Requests conn) comes = tt
  has_reply a (Seizes conn expected) comes = tt
  has_reply a (Tests word) comes = tt
  has_reply a Turns comes = subst IsSome (sym comes.reply) refl
  has_reply a (Withdraws conn) comes = tt
  has_reply a GivesBack comes = tt
  has_reply a (Operates turn) comes = subst IsSome (sym comes.reply) refl

  pub is_attempt : (a : Attempt) → IsValid plan a → AreEffects a.effects → IsAttempt a
  is_attempt a valid effects = record {
    job = valid.place.job;
    phase = phase_range a a.phase valid valid.place.comes;
    held = valid.place.held;
    reply = has_reply a a.phase valid.place.comes;
    effects = effects;
  }

-- the connector that a job seizes first is one of the office
first_range : (job : Job) → IsJob job → IsConn (first_conn job)
first_range (Dial line) range = range.frame
first_range (Complete line dialled) range = range.0.frame
first_range (Release line) range = range.frame

pub attempt_begun : (job : Job) → IsJob job → IsAttempt (begin_with (first_conn job) job)
attempt_begun job range = record {
  job = range;
  phase = first_range job range;
  held = λ conn none. absurd none;
  reply = tt;
  effects = λ effect none. absurd none;
}

-- and so is an attempt that restarts
attempt_freed : (plan : Tables) (a : Attempt) (held : List Conn) → IsJob a.job → AreConns held → AreEffects a.effects
    → IsAttempt (giving_back (office plan) a held)
attempt_freed plan a [] job conns effects = attempt_begun a.job job
attempt_freed plan a (conn ∷ held) job conns effects = record { job = job; phase = tt; held = conns; reply = tt; effects = effects }

attempt_restarted_in : (plan : Tables) (a : Attempt) (phase : Phase) → a.phase ≡ phase → IsAttempt a → IsAttempt (restarted_in (office plan) phase a)
attempt_restarted_in plan a (Requests conn) at is = attempt_freed plan (forgotten a) a.held is.job is.held (λ effect none. absurd none)
attempt_restarted_in plan a (Seizes conn expected) at is =
    record { job = is.job; phase = subst IsPhase at is.phase; held = is.held; reply = tt; effects = λ effect none. absurd none }
attempt_restarted_in plan a (Tests word) at is = attempt_freed plan (forgotten a) a.held is.job is.held (λ effect none. absurd none)
attempt_restarted_in plan a Turns at is = attempt_freed plan (forgotten a) a.held is.job is.held (λ effect none. absurd none)
attempt_restarted_in plan a (Withdraws conn) at is = is
attempt_restarted_in plan a GivesBack at is = is
attempt_restarted_in plan a (Operates turn) at is = is

pub attempt_restarted : (plan : Tables) (a new : Attempt) → IsAttempt a → new ≡ restarted (office plan) a → IsAttempt new
attempt_restarted plan a new is made = subst IsAttempt (sym made) (attempt_restarted_in plan a a.phase refl is)

abbrev KnowsHere : Job → WalkProgress → Seen → Type 0
KnowsHere job point seen = ResumePointIsValid (job_line job) point seen

-- the jobs are scripts
pub scripts_are : (plan : Tables) → IsLawful plan
    → AreScripts conn_eq reply_of effects_of (without_decisions Preferring (office_over plan)) KnowsHere most_readings most_seizings
scripts_are plan laws = record {
  is_system = office_is plan laws;
  asks = (jobs_bounded plan laws).asks;
  stays_valid = λ job point seen more extends valid_point. known_on (job_line job) point seen more extends valid_point;
}

pub stands_here : (plan : Tables) (p : Doing) → IsValid plan (attempt_at p) → ResumePointIsValidIn KnowsHere (attempt_at p) p.point p.phase
    → standing.IsValid conn_eq reply_of effects_of (without_decisions Preferring (office_over plan)) KnowsHere most_readings most_seizings p
stands_here plan p valid valid_point = record { place = valid.place; point = valid_point }

-- what a program that has just begun knows
pub knows_begun : (p : Doing) (job : Job) → attempt_at p ≡ begin_with (first_conn job) job → ((seen : Seen) → ResumePointIsValid (job_line job) p.point seen)
    → ResumePointIsValidIn KnowsHere (attempt_at p) p.point p.phase
knows_begun p job made always =
    known_anywhere KnowsHere (attempt_at p) p.point p.phase
    (λ seen. subst (λ (j : Job). ResumePointIsValid (job_line j) p.point seen) (sym (ap (λ (a : Attempt). a.job) made)) (always seen))

-- whatever the plan, for what doesn't depend on it
pub no_plan : Tables
no_plan = record { groups = []; stations = []; routes = []; faults = [] }

abbrev counted_at : Attempt → ℕ → Counted
counted_at a count = record { attempt = a; count = count }

-- an attempt and its count, after an answer or anew
pub count_is : (p : Doing) (before : ℕ) (a : Attempt) → attempt_at p ≡ a → p.count ≡ (with_count before (attempt_at p)).count
    → counted_at (attempt_at p) p.count ≡ with_count before a
count_is p before a made count = ap (counted_at (attempt_at p)) count ∙ ap (with_count before) made

pub begun_is : (p : Doing) (job : Job) → attempt_at p ≡ begin_with (first_conn job) job → p.count ≡ 0 → counted_at (attempt_at p) p.count ≡ fresh job
begun_is p job made count = ap (counted_at (attempt_at p)) count ∙ ap (λ (a : Attempt). counted_at a 0) made

-- what becomes of a program by an answer
pub record Told (plan : Tables) (p new : Doing) (answer : Answer) : Type 0 where
  pub change : attempt_at new ≡ change (office plan) (attempt_at p) answer
  pub valid : IsValid plan (attempt_at new)
  pub turn : (number : ℕ) → answer ≡ Turned number → DoesAsOffice plan (attempt_at new)

pub told : (plan : Tables) → IsLawful plan → (p new : Doing) (answer : Answer) (a : Attempt) → attempt_at p ≡ a → IsJob p.job → IsAnswerTo (act a) answer
    → IsValid plan a → attempt_at new ≡ change (office plan) (attempt_at p) answer → Told plan p new answer
told plan laws p new answer a same job fits valid made =
    let fits_here = subst (λ (b : Attempt). IsAnswerTo (act b) answer) (sym same) fits in
    let stands_now = subst (IsValid plan) (sym same) valid in
    record {
      change = made;
      valid = subst (IsValid plan) (sym made) (stands_after plan (attempt_at p) answer laws job fits_here stands_now);
      turn = λ number is. subst (DoesAsOffice plan) (sym made) (turn_does plan (attempt_at p) answer number laws job fits_here stands_now.place.comes is);
    }

-- what becomes of a program that made steps by its walk
pub record Ran (plan : Tables) (marker made : ℕ) (p new : Doing) (words after : List ℕ) : Type 0 where
  pub steps : LeadsTo (office plan) marker made (record { attempt = attempt_at p; words = words }) (record { attempt = attempt_at new; words = after })
  pub valid : IsValid plan (attempt_at new)

pub ran : (plan : Tables) → IsLawful plan → (marker made : ℕ) (p new : Doing) (words after : List ℕ) (a : Attempt) → attempt_at p ≡ a → IsValid plan a
    → LeadsTo (office plan) marker made (record { attempt = attempt_at p; words = words }) (record { attempt = attempt_at new; words = after })
    → Ran plan marker made p new words after
ran plan laws marker made p new words after a same valid leads =
    record {
      steps = leads;
      valid =
          stands_led plan laws marker made (record { attempt = attempt_at p; words = words }) (record { attempt = attempt_at new; words = after }) leads
          (subst (IsValid plan) (sym same) valid);
    }
