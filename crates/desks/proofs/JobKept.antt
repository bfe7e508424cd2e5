-- whatever a desk does with its job, it is the job that was assigned to it
use Rattle.std.proofs.Common.{◌≡◌, ℕ, zero, suc, List, [], ◌∷◌, ◌++◌, refl, sym, ◌∙◌, ap, Bool, true, false, Option, Some, Result, Ok, Err, if◌then◌else◌}
use Rattle.turns.specs.{System.System, Attempt.{AttemptOf, changed, denied, forgotten, giving_back, goes_on, operated, rest_of}, World.{ActorOf, Idle, Does}}
use Rattle.turns.specs.{World.RecordOf, declared.answer.Answer.{Answer, TheVariants.{Asked, Seized, Held, Preferred, Again, Value, Turn as TurnNumber, Done}}}
use Rattle.turns.specs.declared.{phase.Phase.{Phase, TheVariants.{Requests, Seizes, Tests, Turns, Withdraws, GivesBack, Operates}}, wanted.Wanted.Wanted}
use Rattle.turns.specs.{declared.wanted.Wanted.TheVariants.{Seize, Test}, Outcomes.given_back}
use Rattle.desks.specs.{declared.progress.JobRecord.JobRecord, Desks.{HasAdvanced, HasGivenBack, HasMade, HasStepped}, Reports.job_of}
use Rattle.desks.specs.declared.progress.Progress.TheVariants as progress

module _ (O : System) where
  open O use {Lock, Job, Effect, Decision}

  freed_job : (a : AttemptOf O) (held : List Lock) → (giving_back O a held).job ≡ a.job
  freed_job a [] = refl
  freed_job a (lock ∷ held) = refl

  goes_job : (a : AttemptOf O) (to : Result Decision (Wanted Lock ℕ)) → (goes_on O a to).job ≡ a.job
  goes_job a (Ok decision) = refl
  goes_job a (Err (Seize lock)) = refl
  goes_job a (Err (Test word)) = refl

  operated_job : (a : AttemptOf O) (effects : List Effect) → (operated a effects).job ≡ a.job
  operated_job a [] = refl
  operated_job a (effect ∷ effects) = refl

  denied_job : (asks : Bool) (a : AttemptOf O) (lock : Lock) → (if asks then denied a lock else giving_back O (forgotten a) a.held).job ≡ a.job
  denied_job true a lock = refl
  denied_job false a lock = freed_job (forgotten a) a.held

  changed_job : (a : AttemptOf O) (phase : Phase Lock ℕ) (answer : Answer) → (changed O a phase answer).job ≡ a.job
  changed_job a (Requests lock) (Asked word) = refl
  changed_job a (Requests lock) Seized = goes_job (record a { held = a.held ++ lock ∷ [] }) _
  changed_job a (Requests lock) (Held holder) = denied_job O.sharing.asks a lock
  changed_job a (Requests lock) (Preferred other) = denied_job O.sharing.asks a lock
  changed_job a (Seizes lock expected) Seized = goes_job (record a { held = a.held ++ lock ∷ [] }) _
  changed_job a (Seizes lock expected) (Held holder) = refl
  changed_job a (Seizes lock expected) (Preferred other) = refl
  changed_job a (Seizes lock expected) (Again word) = refl
  changed_job a (Tests word) (Value value) = goes_job (record a { readings = a.readings ++ record { word = word; value = value } ∷ [] }) _
  changed_job a Turns (TurnNumber number) = refl
  changed_job a (Withdraws lock) Done = freed_job a a.held
  changed_job a GivesBack Done = freed_job a (rest_of a.held)
  changed_job a (Operates turn) Done = operated_job a a.effects
  changed_job a _ _ = refl

  given_back_job : (a : AttemptOf O) (phase : Phase Lock ℕ) → (given_back O phase a).job ≡ a.job
  given_back_job a (Requests lock) = refl
  given_back_job a (Seizes lock expected) = refl
  given_back_job a (Tests word) = refl
  given_back_job a Turns = refl
  given_back_job a (Withdraws lock) = refl
  given_back_job a GivesBack = refl
  given_back_job a (Operates turn) = refl

  abbrev numbered : ℕ → Job → Option (ℕ × Job)
  numbered number job = Some (number, job)

  pub step_job : (k : ℕ) (before after : ActorOf O) (seen seen_after : List (RecordOf O)) (answer : Answer) → HasStepped O k before after seen seen_after answer
      → job_of O after ≡ job_of O before
  step_job k before after seen seen_after answer step =
      ap (job_of O) step.after_is ∙ ap (numbered step.number) (changed_job step.attempt step.attempt.phase _) ∙ ap (job_of O) (sym step.before_is)

  pub steps_job : (k count : ℕ) (before after : ActorOf O) (seen seen_after : List (RecordOf O)) → HasMade O k count before after seen seen_after
      → job_of O after ≡ job_of O before
  steps_job k zero before after seen seen_after same = ap (job_of O) same.0
  steps_job k (suc count) before after seen seen_after (between, seen_between, answer, made, asks, step) =
      step_job k between after seen_between seen_after answer step ∙ steps_job k count before between seen seen_between made

  pub back_job : (k : ℕ) (before after : ActorOf O) (seen seen_after : List (RecordOf O)) → HasGivenBack O k before after seen seen_after
      → job_of O after ≡ job_of O before
  back_job k Idle after seen seen_after same = ap (job_of O) same.0
  back_job k (Does number a) after seen seen_after gave = ap (job_of O) gave.after_is ∙ ap (numbered number) (given_back_job a a.phase)

  pub told_job : (k : ℕ) (before after : ActorOf O) (seen seen_after : List (RecordOf O)) (reported : JobRecord O.Job O.Reply)
      → HasAdvanced O k before after seen seen_after (progress.Finished reported) → job_of O before ≡ Some (reported.number, reported.job)
  told_job k before after seen seen_after reported (answer, step, free, is) =
      sym (step_job k before after seen seen_after answer step) ∙ ap (job_of O) is.after_is ∙ ap (numbered reported.number) is.job
