-- the outcome of an attempt past its turn
use Rattle.std.proofs.Common.{◌≡◌, ℕ, refl, sym, ◌∙◌, ap, Option, Some, None, option_map}
use Rattle.{turns.specs.{Attempt.turn_in, declared.phase.Phase.{Phase, TheVariants.Operates}, Outcomes.outcome_in}, attempts.specs.Validity.AttemptView}

turned : {Lock Job Reply : Type 0} (phase : Phase Lock ℕ) (turn : ℕ) (job : Job) (reply : Reply) → Some turn ≡ turn_in phase
    → ◌≡◌ {A = Option (ℕ × Job × Reply)} (Some (turn, job, reply)) (outcome_in phase job (Some reply))
turned {Lock} {Job} {Reply} (Operates own) turn job reply e = let same : turn ≡ own = cc in
    let with : ℕ → Option (ℕ × Job × Reply) = λ t. Some (t, job, reply) in ap with same
turned phase turn job reply e = absurd cc

not_decided : {Lock Job Reply : Type 0} (phase : Phase Lock ℕ) (job : Job) → ◌≡◌ {A = Option (ℕ × Job × Reply)} None (outcome_in phase job None)
not_decided (Operates own) job = refl
not_decided phase job = refl

pub before_turn : {Lock Job Reply : Type 0} (phase : Phase Lock ℕ) (job : Job) (reply : Option Reply) → None ≡ turn_in phase
    → ◌≡◌ {A = Option (ℕ × Job × Reply)} None (outcome_in phase job reply)
before_turn (Operates own) job reply e = absurd cc
before_turn phase job reply e = refl

module _ {Lock Job Decision ResumePoint Reply : Type 0} (reply_of : Decision → Reply) (p now : AttemptView Lock Job Decision ResumePoint)
    (inside : p ≡ now) where
  abbrev Outcome : Type 0
  Outcome = Option (ℕ × Job × Reply)

  -- by its turn, its job and what it has decided
  outside : (o : Outcome) → o ≡ outcome_in now.phase p.job (option_map reply_of p.decision)
      → o ≡ outcome_in now.phase now.job (option_map reply_of now.decision)
  outside o e = e ∙ ap (λ (x : AttemptView Lock Job Decision ResumePoint). outcome_in now.phase x.job (option_map reply_of x.decision)) inside

  pub with_reply : (turn : ℕ) (decision : Decision) (reply : Reply) → Some turn ≡ turn_in now.phase → p.decision ≡ Some decision → reply ≡ reply_of decision
      → ◌≡◌ {A = Outcome} (Some (turn, p.job, reply)) (outcome_in now.phase now.job (option_map reply_of now.decision))
  with_reply turn decision reply at is replies =
      outside (Some (turn, p.job, reply))
      (turned now.phase turn p.job reply at ∙ ap (λ (r : Reply). outcome_in now.phase p.job (Some r)) replies
      ∙ ap (λ (d : Option Decision). outcome_in now.phase p.job (option_map reply_of d)) (sym is))

  pub without_reply : p.decision ≡ None → ◌≡◌ {A = Outcome} None (outcome_in now.phase now.job (option_map reply_of now.decision))
  without_reply is = outside None (not_decided now.phase p.job ∙ ap (λ (d : Option Decision). outcome_in now.phase p.job (option_map reply_of d)) (sym is))
