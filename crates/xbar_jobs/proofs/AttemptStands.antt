-- whatever its steps' answers, an attempt stays valid, and has room
use Rattle.std.proofs.Common.{ℕ, zero, suc, arith, subst}
use Rattle.turns.specs.{Attempt.{IsAnswerTo, act, begin_with, change, restarted}, declared.{act.Act.{Act, TheVariants.Test}, answer.Answer.Answer}}
use Rattle.turns.specs.declared.answer.Answer.TheVariants.{Asked, Seized, Held, Preferred, Again, Value, Turn, Done}
use Rattle.attempts.{specs.{WalkOnWords.{LeadsTo, Moment, stepped, answer_at}, Applied.FitsValue}, proofs.Places.{place_begin, place_change, place_restarted}}
use Rattle.{xbar_plan.specs.{Tables.Tables, Lawful.IsLawful}, xbar_office.specs.{Legal.IsJob, declared.job.Job.Job}}
use Rattle.xbar_jobs.specs.{Attempt.Attempt, Jobs.first_conn, Office.office, Standing.{IsValid, most_readings, most_seizings}}
use Rattle.xbar_jobs.proofs.{HoldsFew.{few_change, few_restarted, holds_begin, holds_change, holds_restarted}, JobBounds.jobs_bounded, OfficeSystem.office_is}

-- a value that answers a test fits a word
pub answer_fits : {Lock Effect : Type 0} (act : Act Lock Effect) (answer : Answer) → IsAnswerTo act answer → FitsValue answer
answer_fits (Test word) (Value value) fits = fits
answer_fits act (Value value) fits = absurd fits
answer_fits act (Asked word) fits = tt
answer_fits act Seized fits = tt
answer_fits act (Held holder) fits = tt
answer_fits act (Preferred other) fits = tt
answer_fits act (Again word) fits = tt
answer_fits act (Turn number) fits = tt
answer_fits act Done fits = tt

pub stands_begun : (plan : Tables) (job : Job) → IsLawful plan → IsJob job → IsValid plan (begin_with (first_conn job) job)
stands_begun plan job laws in_range = record {
  place = place_begin (office plan) (office_is plan laws) most_readings most_seizings (jobs_bounded plan laws).asks job in_range;
  few = omega arith;
  holds = holds_begin plan job laws;
}

pub stands_after : (plan : Tables) (a : Attempt) (answer : Answer) → IsLawful plan → IsJob a.job → IsAnswerTo (act a) answer → IsValid plan a
    → IsValid plan (change (office plan) a answer)
stands_after plan a answer laws in_range fits valid = record {
  place =
      place_change (office plan) (office_is plan laws) most_readings most_seizings (jobs_bounded plan laws).asks a answer (answer_fits (act a) answer fits)
      valid.place;
  few = few_change plan laws a in_range valid.place.read answer valid.place.comes valid.holds valid.few;
  holds = holds_change plan laws a in_range valid.place.read answer valid.place.comes valid.holds;
}

pub stands_again : (plan : Tables) (a : Attempt) → IsLawful plan → IsJob a.job → IsValid plan a → IsValid plan (restarted (office plan) a)
stands_again plan a laws in_range valid = record {
  place = place_restarted (office plan) (office_is plan laws) most_readings most_seizings (jobs_bounded plan laws).asks a valid.place;
  few = few_restarted plan a valid.few;
  holds = holds_restarted plan a laws valid.holds;
}

-- so does one that made steps by its walk
pub stands_led : (plan : Tables) → IsLawful plan → (marker count : ℕ) (m last : Moment (office plan)) → LeadsTo (office plan) marker count m last
    → IsValid plan m.attempt → IsValid plan last.attempt
unfolding LeadsTo
stands_led plan laws marker zero m last leads valid = subst (λ (x : Moment (office plan)). IsValid plan x.attempt) leads valid
stands_led plan laws marker (suc count) m last leads valid =
    stands_led plan laws marker count (stepped (office plan) marker m) last leads.1.1
    (stands_after plan m.attempt (answer_at (office plan) marker m) laws valid.place.job leads.1.0 valid)
