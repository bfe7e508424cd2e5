-- a marker that gives back is at the very beginning of its job
use Rattle.std.proofs.Common.{◌≡◌, ℕ, zero, suc, ◌+◌, true, List, [], ◌∷◌, length, refl, sym, ◌∙◌, ap, subst, arith}
use Rattle.turns.specs.Attempt.{act, act_in, begin_with, change, changed, forgotten, free_act, giving_back, request_in, rest_of, restarted, restarted_in}
use Rattle.turns.specs.{World.Does, declared.{answer.Answer.Answer, phase.Phase.TheVariants.{Requests, Seizes, Tests, Turns, Withdraws, GivesBack, Operates}}}
use Rattle.{xbar_equip.specs.declared.conn.Conn.Conn, xbar_plan.specs.Tables.Tables, xbar_office.specs.declared.job.Job.Job}
use Rattle.{xbar_jobs.specs.{Attempt.{Attempt, Phase, step_of}, Jobs.first_conn, Office.office}, xbar_moves.specs.AtWork.{IsBackingIn, answer_to_step}}
use Rattle.xbar_moves.specs.{Exchange.Exchange, Holding.IsAt, Moves.{restarted_at, frees_left, given_at, given_back, given_by, request_count, after_step}}
use Rattle.xbar_moves.{specs.Moves.steps, proofs.Backing.{withdraws_or_frees, Answers, anew_in, answers, back_goes, by_backing, gives_up_goes, goes_with}}
use Rattle.xbar_moves.proofs.{Backing.{left_in, left_is, no_more, one_less}, Jobs.{restarted_job, at_job_is}, StepCases.gone_on, Worlds.{answer_is, found_by}}
use Rattle.turns.specs.Attempt as generic
use Rattle.xbar_moves.specs.declared.event.Given.TheVariants as given

-- a job before its first step
abbrev begun : Job → Attempt
begun job = begin_with (first_conn job) job

-- an attempt at a job requests a connector only at its very beginning
record Begins (job : Job) (a : Attempt) : Type 0 where
  pub job_is : a.job ≡ job
  pub begins : (conn : Conn) → a.phase ≡ Requests conn → a ≡ begun job

module _ (plan : Tables) where
  freed_begins : (a : Attempt) (job : Job) (held : List Conn) → a.job ≡ job → Begins job (giving_back (office plan) a held)
  freed_begins a job [] is = record { job_is = is; begins = λ conn at. ap begun is }
  freed_begins a job (conn ∷ held) is = record { job_is = is; begins = λ other at. absurd cc }

  -- so does one that is to begin anew
  anew_begins : (a : Attempt) (phase : Phase) → a.phase ≡ phase → Begins a.job (restarted_in (office plan) phase a)
  anew_begins a (Requests conn) at = freed_begins (forgotten a) a.job a.held refl
  anew_begins a (Seizes conn expected) at = record { job_is = refl; begins = λ other is. absurd cc }
  anew_begins a (Tests word) at = freed_begins (forgotten a) a.job a.held refl
  anew_begins a Turns at = freed_begins (forgotten a) a.job a.held refl
  anew_begins a (Withdraws conn) at =
      record { job_is = refl; begins = λ other is. let two : ◌≡◌ {A = Phase} (Withdraws conn) (Requests other) = sym at ∙ is in absurd cc }
  anew_begins a GivesBack at = record { job_is = refl; begins = λ other is. let two : ◌≡◌ {A = Phase} GivesBack (Requests other) = sym at ∙ is in absurd cc }
  anew_begins a (Operates turn) at =
      record { job_is = refl; begins = λ other is. let two : ◌≡◌ {A = Phase} (Operates turn) (Requests other) = sym at ∙ is in absurd cc }

  -- and on its way back
  given_begins : (k found : ℕ) (a : Attempt) (job : Job) (held : List Conn) → a.job ≡ job
      → Begins job (changed (office plan) a GivesBack (generic.answer_to (office plan) k (free_act held) found))
  given_begins k found a job [] is = freed_begins a job (rest_of a.held) is
  given_begins k found a job (conn ∷ held) is = freed_begins a job (rest_of a.held) is

  module _ (k number : ℕ) (job : Job) where
    abbrev BeginsBy : ℕ → Attempt → Phase → Type 0
    BeginsBy found a phase =
        withdraws_or_frees (step_of (act_in phase a))
        ≡ true → Begins job (changed (office plan) a phase (generic.answer_to (office plan) k (act_in phase a) found))

    back_begins : (found : ℕ) (a : Attempt) → a.job ≡ job → (phase : Phase) → IsBackingIn a phase → BeginsBy found a phase
    back_begins found a is = by_backing (BeginsBy found a) a
        (λ conn goes. freed_begins a job a.held is)
        (λ more goes. given_begins k found a job a.held is)
        (λ conn none goes. absurd cc)

    none_begun : (a : Attempt) → Begins job a → (phase : Phase) → IsBackingIn a phase → a.phase ≡ phase → request_count (request_in phase) + length a.held ≡ 0
        → a ≡ begun job
    none_begun a is = by_backing (λ phase. a.phase ≡ phase → request_count (request_in phase) + length a.held ≡ 0 → a ≡ begun job) a
        (λ conn at none. absurd (omega (arith, none)))
        (λ more at none. absurd (more (no_more a.held (omega (arith, none)))))
        (λ conn bare at none. is.begins conn at)

    -- with nothing left, it is at the beginning
    back_to_begin : (count : ℕ) (e : Exchange) (a : Attempt) → IsAt e k number a → Begins job a → IsBackingIn a a.phase → left_in a ≡ count
        → IsAt (steps plan k count e) k number (begun job)
    unfolding steps
    back_to_begin zero e a at is backs left = subst (IsAt e k number) (none_begun a is a.phase backs refl left) at
    back_to_begin (suc count) e a at is backs left =
        let goes = goes_with a count backs left in
        let b : Attempt = change (office plan) a (answer_to_step k e.words a) in
        let less = one_less plan k e.words a backs goes in
        let begins : Begins job b =
        subst (λ (answer : Answer). Begins job (change (office plan) a answer)) (sym (answer_is plan k e.words a))
        (back_begins (found_by plan e.words a) a is.job_is a.phase backs goes) in
        back_to_begin count (after_step plan k e) b (gone_on plan e k number a at (gives_up_goes (act a) goes)) begins less.0 (omega (arith, less.1, left))

  -- so a marker that gives back begins
  pub given_back_begins : (e : Exchange) (k number : ℕ) (a : Attempt) → given_at e k ≡ given.Given → IsAt e k number a
      → IsAt (given_back plan k e) k number (begin_with (first_conn a.job) a.job)
  given_back_begins e k number a gives at =
      let is = at_job_is given.Idle (λ m n b. given_by (Does n b)) e k number a at in
      let told = subst (Answers (Does number a)) (sym is ∙ gives) (answers (Does number a)) in
      let back = anew_in plan a a.phase refl told.0 told.1 in
      let left = back.1 ∙ sym (left_is e k number a at) in
      subst (λ (x : Exchange). IsAt x k number (begun a.job)) (sym (back_goes plan e k gives))
      (back_to_begin k number a.job (frees_left e k) (restarted_at plan k e) (restarted (office plan) a) (restarted_job plan e k number a at)
      (anew_begins a a.phase refl) back.0 left)
