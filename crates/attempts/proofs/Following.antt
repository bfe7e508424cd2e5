-- the word that is tested next, as the code has it
use Rattle.std.proofs.Common.{◌≡◌, ℕ, Bool, List, sym, ◌∙◌, ap, subst, Err, IfSome, Option}
use Rattle.turns.specs.{Attempt.{AttemptOf, IsValidIn, seen_of}, Script.{Script, walk}, Seen.Seen, System.System, declared.phase.Phase.Phase}
use Rattle.turns.specs.declared.{phase.Phase.TheVariants.Tests, wanted.Wanted.TheVariants.Test}
use Rattle.attempts.specs.{Points.GoesOnTo, Validity.{ResumePointIsValidIn, AttemptView, IsValid, attempt_of}, SystemWith.{SystemWith, system_with}}

module _ {Lock Job Reply Effect Decision ResumePoint : Type 0} (same : Lock → Lock → Bool) (reply_of : Decision → Reply) (effects_of : Decision → List Effect)
    (S : SystemWith Lock Job Reply Effect Decision) (ResumePointIsValid : Job → ResumePoint → Seen Lock → Type 0) (reads seizes : ℕ) where
  abbrev Doing : Type 0
  Doing = AttemptView Lock Job Decision ResumePoint

  abbrev O : System
  O = system_with same reply_of effects_of S

  abbrev outside : Doing → AttemptOf O
  outside p = attempt_of reply_of effects_of p

  module _ (p now : Doing) (inside : p ≡ now) (valid : IsValid same reply_of effects_of S ResumePointIsValid reads seizes now) (word : ℕ)
      (tests : now.phase ≡ Tests word) where
    here : IsValid same reply_of effects_of S ResumePointIsValid reads seizes p
    here = subst (λ (x : Doing). IsValid same reply_of effects_of S ResumePointIsValid reads seizes x) (sym inside) valid

    tests_here : p.phase ≡ Tests word
    tests_here = ap (λ (x : Doing). x.phase) inside ∙ tests

    pub job_here : S.IsJob p.job
    job_here = here.place.job

    pub knows_here : ResumePointIsValid p.job p.point (seen_of (outside p))
    knows_here = subst (λ (phase : Phase Lock ℕ). ResumePointIsValidIn ResumePointIsValid (outside p) p.point phase) tests_here here.point

    pub wants_here : walk same (seen_of (outside p)) (S.script p.job) ≡ Err (Test word)
    wants_here = subst (λ (phase : Phase Lock ℕ). IsValidIn O (outside p) phase) tests_here here.place.comes

-- the next word is the same for an attempt's fields and for its view
pub goes_on_there : {Lock Job Decision : Type 0} (same : Lock → Lock → Bool) (script : Job → Script Lock Decision) (job own_job : Job)
    (seen own_seen : Seen Lock) (word : ℕ) (next : Option ℕ) → job ≡ own_job → seen
    ≡ own_seen → IfSome next (GoesOnTo same seen (script job) word) → IfSome next (GoesOnTo same own_seen (script own_job) word)
goes_on_there same script job own_job seen own_seen word next job_is seen_is goes =
    subst (λ (x : Seen _). IfSome next (GoesOnTo same x (script own_job) word)) seen_is
    (subst (λ j. IfSome next (GoesOnTo same seen (script j) word)) job_is goes)
