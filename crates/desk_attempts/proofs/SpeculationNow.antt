-- what can be seen of an attempt with predictions
use Rattle.std.proofs.Common.{◌≡◌, ℕ, Bool, zero, suc, List, [], ◌∷◌, refl, sym, ap, ◌∙◌, IfNone, IfSome, Option, Some, None, drop, slice_get}
use Rattle.{std.proofs.lemmas.Option.same_Some, turns.specs.{Attempt.{Attempt, act, answer_to}, Sharings.sharing_of, declared.reading.Reading.Reading}}
use Rattle.desk_attempts.specs.Speculation.{Speculation, predicted_of, predictions, validated_of, now_by, now_of, waiting}
use Rattle.attempts.{specs.{Validity.{AttemptView, attempt_of}, Answers.answer_in, SystemWith.{SystemWith, system_with}}, proofs.Inside.told_by}

module _ {Lock Job Reply Effect Decision ResumePoint : Type 0} (reply_of : Decision → Reply) (effects_of : Decision → List Effect)
    (p : Speculation Lock Job Decision ResumePoint) where
  -- without predictions it is the predicted attempt
  pub is_far : None ≡ slice_get (predictions p) 0 → now_of reply_of effects_of p ≡ attempt_of reply_of effects_of p.predicted
  is_far none = at (predictions p) none where
    at : (l : List (Reading ℕ)) → None ≡ slice_get l 0 → now_by reply_of effects_of p.predicted p.validated l ≡ attempt_of reply_of effects_of p.predicted
    at [] none = refl
    at (r ∷ l) none = absurd cc

  -- and otherwise it tests the word of the first prediction
  pub waits : (prediction : Reading ℕ) → Some prediction ≡ slice_get (predictions p) 0
      → now_of reply_of effects_of p ≡ waiting Reply Effect p.predicted (validated_of p.validated p.predicted.readings) prediction.word
  waits prediction got = at (predictions p) got where
    at : (l : List (Reading ℕ)) → Some prediction ≡ slice_get l 0
        → now_by reply_of effects_of p.predicted p.validated l
        ≡ waiting Reply Effect p.predicted (validated_of p.validated p.predicted.readings) prediction.word
    at [] got = absurd cc
    at (r ∷ l) got =
        ap (λ (x : Reading ℕ). waiting Reply Effect p.predicted (validated_of p.validated p.predicted.readings) x.word) (same_Some r prediction (sym got))

-- the first of a list, and what follows it
pub first_of : {A : Type 0} (l : List A) (first : A) → Some first ≡ slice_get l 0 → (rest : List A) × (l ≡ first ∷ rest)
first_of [] first got = absurd cc
first_of (x ∷ l) first got = (l, ap (λ y. y ∷ l) (same_Some x first (sym got)))

pub empty_of : {A : Type 0} (l : List A) → None ≡ slice_get l 0 → l ≡ []
empty_of [] none = refl
empty_of (x ∷ l) none = absurd cc

get_dropped : {A : Type 0} (made : ℕ) (l : List A) → slice_get l made ≡ slice_get (drop made l) 0
get_dropped zero [] = refl
get_dropped zero (x ∷ l) = refl
get_dropped (suc made) [] = refl
get_dropped (suc made) (x ∷ l) = get_dropped made l

-- the first prediction comes after the validated readings
pub prediction_at : {Lock Job Decision ResumePoint : Type 0} (predicted : AttemptView Lock Job Decision ResumePoint) (validated : Option ℕ)
    (now : Speculation Lock Job Decision ResumePoint) → record { predicted = predicted; validated = validated } ≡ now → (made : ℕ) → validated
    ≡ Some made → slice_get predicted.readings made ≡ slice_get (predictions now) 0
prediction_at predicted validated now inside made is =
    get_dropped made predicted.readings
    ∙ ap (λ (s : Option ℕ). slice_get (predicted_of s predicted.readings) 0) (sym is)
    ∙ ap (λ (p : Speculation _ _ _ _). slice_get (predictions p) 0) inside

-- what can be seen of it now
module _ {Lock Job Reply Effect Decision ResumePoint A : Type 0} (reply_of : Decision → Reply) (effects_of : Decision → List Effect)
    (f : Attempt Lock Job Reply Effect → A) where
  pub seen_far : (predicted : AttemptView Lock Job Decision ResumePoint) (validated : Option ℕ) (now : Speculation Lock Job Decision ResumePoint)
      → record { predicted = predicted; validated = validated } ≡ now → None ≡ slice_get (predictions now) 0
      → f (attempt_of reply_of effects_of predicted) ≡ f (now_of reply_of effects_of now)
  seen_far predicted validated now inside none =
      ap (λ (p : Speculation Lock Job Decision ResumePoint). f (attempt_of reply_of effects_of p.predicted)) inside
      ∙ ap f (sym (is_far reply_of effects_of now none))

  pub seen_waiting : (now : Speculation Lock Job Decision ResumePoint) (prediction : Reading ℕ) → Some prediction ≡ slice_get (predictions now) 0
      → f (waiting Reply Effect now.predicted (validated_of now.validated now.predicted.readings) prediction.word) ≡ f (now_of reply_of effects_of now)
  seen_waiting now prediction got = ap f (sym (waits reply_of effects_of now prediction got))

-- without predictions, the answer to its next step depends on the phase of the predicted attempt
pub told_far : {Lock Job Reply Effect Decision ResumePoint : Type 0} (same : Lock → Lock → Bool) (reply_of : Decision → Reply)
    (effects_of : Decision → List Effect) (S : SystemWith Lock Job Reply Effect Decision) (k found : ℕ)
    (p predicted : AttemptView Lock Job Decision ResumePoint) (validated : Option ℕ) (now : Speculation Lock Job Decision ResumePoint) → p
    ≡ predicted → record { predicted = predicted; validated = validated } ≡ now → None
    ≡ slice_get (predictions now) 0 → answer_in (sharing_of S.sharing) p.phase k found
    ≡ answer_to (system_with same reply_of effects_of S) k (act (now_of reply_of effects_of now)) found
told_far same reply_of effects_of S k found p predicted validated now within inside none =
    told_by same reply_of effects_of S k found p.phase (attempt_of reply_of effects_of p)
    ∙ ap (λ (x : AttemptView _ _ _ _). answer_to (system_with same reply_of effects_of S) k (act (attempt_of reply_of effects_of x)) found) within
    ∙ seen_far reply_of effects_of (λ a. answer_to (system_with same reply_of effects_of S) k (act a) found) predicted validated now inside none

-- whatever there is
pub of_any : {A P : Type 0} (found : Option A) → P → IfSome found (λ _. P)
of_any None holds = tt
of_any (Some step) holds = holds

pub unless_any : {A P : Type 0} (found : Option A) → P → IfNone found P
unless_any None holds = holds
unless_any (Some step) holds = tt

-- and if there is nothing, whatever is asked of it
pub of_none : {A : Type 0} (P Q : Type 0) (found : Option A) → IfNone found Q → IfNone found (P → Q)
of_none P Q None holds = λ p. holds
of_none P Q (Some step) holds = tt
