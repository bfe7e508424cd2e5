-- one step, as the code makes it: its word is there, and the answer, the attempt and the words after it are the law's
use Rattle.std.proofs.Common.{◌≡◌, ◌≢◌, ℕ, ◌<◌, Bool, List, length, sym, ◌∙◌, ap, subst, slice_index, slice_set}
use Rattle.turns.specs.{Attempt.{IsAnswer, act, answer_to, change}, Operations.applied, Seen.Seen, Sharings.sharing_of, System.{AreWords, System}}
use Rattle.turns.specs.{World.{becomes, operation as operation_of, place}, declared.{act.Act.{Act, TheVariants.Finished}, answer.Answer.Answer}}
use Rattle.turns.{specs.declared.{lock_sharing.LockSharing.LockSharing, operation.Operation.Operation, phase.Phase.Phase}, proofs.ExactWords.answers_fit}
use Rattle.attempts.specs.{Answers.answer_in, SystemWith.{SystemWith, system_with}, Validity.{AreScripts, AttemptView, IsValid, attempt_of}}
use Rattle.attempts.{specs.WalkOnWords.{Moment, answer_at, stepped}, proofs.{Inside.told_by, Places.place_there}}

module _ {Lock Job Reply Effect Decision : Type 0} (same : Lock → Lock → Bool) (reply_of : Decision → Reply) (effects_of : Decision → List Effect)
    (S : SystemWith Lock Job Reply Effect Decision) where
  abbrev O : System
  O = system_with same reply_of effects_of S

  -- the step's word is there
  pub word_there : {ResumePoint : Type 0} (ResumePointIsValid : Job → ResumePoint → Seen Lock → Type 0) (reads seizes : ℕ)
      → AreScripts same reply_of effects_of S ResumePointIsValid reads seizes
      → (p : AttemptView Lock Job Decision ResumePoint) (one : Act Lock Effect) (word : ℕ) (words : List ℕ)
      → IsValid same reply_of effects_of S ResumePointIsValid reads seizes p → one ≡ act (attempt_of reply_of effects_of p) → word ≡ place O one
      → length words ≡ S.size → word < length words
  word_there ResumePointIsValid reads seizes are p one word words valid next at size =
      subst (λ (n : ℕ). n < length words) (sym (at ∙ ap (place O) next))
      (subst (λ (n : ℕ). place O (act (attempt_of reply_of effects_of p)) < n) (sym size)
      (place_there O are.is_system reads seizes are.asks (attempt_of reply_of effects_of p) valid.place))

  module _ {ResumePoint : Type 0} (k : ℕ) (p : AttemptView Lock Job Decision ResumePoint) (one : Act Lock Effect) (word : ℕ) (words : List ℕ)
      (next : one ≡ act (attempt_of reply_of effects_of p))
      (at : word ≡ place O one) where
    abbrev was : Moment O
    was = record { attempt = attempt_of reply_of effects_of p; words = words }

    found_is : slice_index words word ≡ slice_index words (place O (act was.attempt))
    found_is = ap (slice_index words) (at ∙ ap (place O) next)

    -- the answer by its phase is the law's
    pub answered : (sharing : LockSharing) (phase : Phase Lock ℕ) (answer : Answer) → sharing ≡ S.sharing → phase ≡ p.phase
        → answer ≡ answer_in (sharing_of sharing) phase k (slice_index words word) → answer ≡ answer_at O k was
    answered sharing phase answer shares here is =
        is ∙ ap (λ (sharing : LockSharing). answer_in (sharing_of sharing) phase k (slice_index words word)) shares
        ∙ ap (λ (phase : Phase Lock ℕ). answer_in (sharing_of S.sharing) phase k (slice_index words word)) here
        ∙ told_by same reply_of effects_of S k (slice_index words word) p.phase was.attempt
        ∙ ap (answer_to O k (act was.attempt)) found_is

    -- it is of the step's kind
    pub answers_so : (answer : Answer) → answer ≡ answer_at O k was → AreWords words → act was.attempt ≢ Finished → IsAnswer O (act was.attempt) answer
    answers_so answer is are goes =
        subst (IsAnswer O (act was.attempt)) (sym is) (answers_fit O k (act was.attempt) _ goes (are (place O (act was.attempt))))

    -- the attempt and the words after it
    pub stepped_is : (new : AttemptView Lock Job Decision ResumePoint) (operation : Operation) (after : ℕ) (answer : Answer) → operation ≡ operation_of O k one
        → after ≡ applied operation (slice_index words word) → answer ≡ answer_at O k was
        → attempt_of reply_of effects_of new ≡ change O was.attempt answer
        → stepped O k was ≡ record { attempt = attempt_of reply_of effects_of new; words = slice_set words word after }
    stepped_is new operation after answer does makes answers comes =
        let attempt_is = ap (change O was.attempt) (sym answers) ∙ sym comes in
        let here : place O (act was.attempt) ≡ word = sym (at ∙ ap (place O) next) in
        let value_is : becomes O k (act was.attempt) (slice_index words (place O (act was.attempt))) ≡ after =
        ap (becomes O k (act was.attempt)) (sym found_is)
        ∙ ap (λ (o : Operation). applied o (slice_index words word)) (sym (does ∙ ap (operation_of O k) next)) ∙ sym makes in
        λ i. record { attempt = attempt_is i; words = slice_set words (here i) (value_is i) }
