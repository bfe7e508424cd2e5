-- what an attempt holds after answers one after another
use Rattle.std.proofs.Common.{◌≤◌, List, [], ◌∷◌, length}
use Rattle.turns.{specs.{Attempt.begin_with, declared.answer.Answer.Answer}, proofs.SteadyAttempts.job_stays}
use Rattle.{xbar_plan.specs.{Lawful.IsLawful, Tables.Tables}, xbar_office.specs.{Legal.IsJob, declared.job.Job.Job}, xbar_jobs.specs.Attempt.{Counted, fresh}}
use Rattle.xbar_jobs.specs.{Counting.{AreAnswers, after_answer, after_answers}, Jobs.first_conn, Office.office, Standing.{IsValid, most_held}}
use Rattle.xbar_jobs.proofs.AttemptStands.{stands_after, stands_begun}

module _ (plan : Tables) (laws : IsLawful plan) where
  held_along : (p : Counted) (answers : List Answer) → IsJob p.attempt.job → IsValid plan p.attempt
      → AreAnswers plan p.attempt answers
      → length (after_answers plan p answers).attempt.held ≤ most_held
  held_along p [] job valid told = valid.few
  held_along p (answer ∷ answers) job valid (fits, later) =
      held_along (after_answer plan p answer) answers (job_stays (office plan) p.attempt answer job)
      (stands_after plan p.attempt answer laws job fits valid) later

  -- whatever answers it gets, an attempt never holds more than the most
  pub held_is_few : (job : Job) (answers : List Answer) → IsJob job → AreAnswers plan (begin_with (first_conn job) job) answers
      → length (after_answers plan (fresh job) answers).attempt.held ≤ most_held
  held_is_few job answers in_range told = held_along (fresh job) answers in_range (stands_begun plan job laws in_range) told
