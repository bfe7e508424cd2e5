-- what becomes of a program, and of the words, by its next step
use Rattle.std.proofs.Common.{◌≡◌, ◌≢◌, ℕ, true, false, List, sym, ◌∙◌, ap, subst}
use Rattle.turns.specs.{Attempt.{IsAnswer, IsAnswerTo, act, change}, Runs.is_finished}
use Rattle.turns.specs.declared.{act.Act.TheVariants.{Finished, Request, Seize, Withdraw, Free, Test, Turn as TakeTurn, Make}, answer.Answer.Answer}
use Rattle.turns.specs.declared.answer.Answer.TheVariants.{Asked, Seized, Held, Preferred, Again, Value, Turn, Done}
use Rattle.{attempts.specs.WalkOnWords.{Moment, answer_at, stepped}, xbar_plan.specs.{Lawful.IsLawful, Tables.Tables}, xbar_office.specs.Legal.IsJob}
use Rattle.xbar_jobs.specs.{Attempt.{Act, Attempt, next_step}, Office.office, OnWords.{answer_of, words_after}, Standing.{Doing, IsValid, attempt_at}}
use Rattle.xbar_jobs.proofs.{PastTurn.{answer_led, words_led}, Programs.{Told, told}}

-- the office's markers ask first, so no request is answered that the connector is seized
pub fits_asking : (plan : Tables) (step : Act) (answer : Answer) → IsAnswer (office plan) step answer → IsAnswerTo step answer
fits_asking plan Finished answer is = is
fits_asking plan (Request conn) (Asked word) is = tt
fits_asking plan (Request conn) Seized is = absurd cc
fits_asking plan (Request conn) (Held holder) is = is
fits_asking plan (Request conn) (Preferred other) is = is
fits_asking plan (Request conn) (Again word) is = is
fits_asking plan (Request conn) (Value value) is = is
fits_asking plan (Request conn) (Turn number) is = is
fits_asking plan (Request conn) Done is = is
fits_asking plan (Seize conn expected) answer is = is
fits_asking plan (Withdraw conn) answer is = is
fits_asking plan (Free conn) answer is = is
fits_asking plan (Test word) answer is = is
fits_asking plan TakeTurn answer is = is
fits_asking plan (Make effect) answer is = is

module _ (plan : Tables) (laws : IsLawful plan) (marker : ℕ) (p new : Doing) (words after : List ℕ) (answer : Answer) (a : Attempt) (same : attempt_at p ≡ a)
    (answered : answer ≡ answer_at (office plan) marker (record { attempt = attempt_at p; words = words }))
    (steps : stepped (office plan) marker (record { attempt = attempt_at p; words = words }) ≡ record { attempt = attempt_at new; words = after }) where
  pub answer_is : answer ≡ answer_of marker (next_step a) words
  answer_is = answered ∙ ap (λ (b : Attempt). answer_at (office plan) marker (record { attempt = b; words = words })) same ∙ sym (answer_led plan marker a words)

  pub words_are : after ≡ words_after marker (next_step a) words
  words_are =
      sym (ap (λ (m : Moment (office plan)). m.words) steps)
      ∙ ap (λ (b : Attempt). (stepped (office plan) marker (record { attempt = b; words = words })).words) same ∙ sym (words_led plan marker a words)

  comes : attempt_at new ≡ change (office plan) (attempt_at p) answer
  comes = sym (ap (λ (m : Moment (office plan)). m.attempt) steps) ∙ ap (change (office plan) (attempt_at p)) (sym answered)

  pub becomes_so : IsJob p.job → is_finished (act a) ≡ false
      → (act (attempt_at p) ≢ Finished → IsAnswer (office plan) (act (attempt_at p)) answer) → IsValid plan a → Told plan p new answer
  becomes_so job goes kind valid =
      let acts : act (attempt_at p) ≢ Finished =
      λ rests. let two : true ≡ false = ap is_finished (sym rests) ∙ ap (λ (b : Attempt). is_finished (act b)) same ∙ goes in cc in
      let fits = fits_asking plan (act (attempt_at p)) answer (kind acts) in
      told plan laws p new answer a same job (subst (λ (b : Attempt). IsAnswerTo (act b) answer) same fits) valid comes
