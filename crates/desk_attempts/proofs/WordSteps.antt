-- an operation on a word makes the attempt's next step
use Rattle.std.proofs.Common.{◌≡◌, ◌≢◌, ℕ, ◌<◌, Bool, List, sym, ◌∙◌, ap, subst}
use Rattle.turns.specs.{Attempt.{AttemptOf, act}, declared.act.Act.{Act, TheVariants.Finished}, Seen.Seen, System.System, World.{operation, place}}
use Rattle.desks.specs.{declared.jobs.WordStep.WordStep, WordSteps.Makes}
use Rattle.attempts.{specs.{Validity.{AreScripts, IsValidInBounds}, SystemWith.{SystemWith, system_with}}, proofs.Places.place_there}

module _ {Lock Job Reply Effect Decision ResumePoint : Type 0} (same : Lock → Lock → Bool) (reply_of : Decision → Reply) (effects_of : Decision → List Effect)
    (S : SystemWith Lock Job Reply Effect Decision) (ResumePointIsValid : Job → ResumePoint → Seen Lock → Type 0) (R H : ℕ)
    (are : AreScripts same reply_of effects_of S ResumePointIsValid R H) where
  abbrev pub O : System
  O = system_with same reply_of effects_of S

  -- the step's operation on the step's word makes it, and it is the attempt's next one
  pub step_made : (a : AttemptOf O) (k : ℕ) (step : Act Lock Effect) (made : WordStep) → IsValidInBounds O R H a → step ≡ act a → step ≢ Finished
      → made.place ≡ place O step → made.operation ≡ operation O k step → Makes O k a made
  step_made a k step made has_place next not at does = record {
    goes_on = λ rests. not (next ∙ rests);
    place = at ∙ ap (place O) next;
    there = subst (λ (n : ℕ). n < S.size) (sym (at ∙ ap (place O) next)) (place_there O are.is_system R H are.asks a has_place);
    operation = does ∙ ap (operation O k) next;
  }
