-- an attempt that begins, or begins again
use Rattle.std.proofs.Common.{◌≡◌, Bool, List, sym, ◌∙◌, ap, subst}
use Rattle.turns.specs.{Attempt.{begin, begin_with}, Seen.Seen}
use Rattle.attempts.specs.{Validity.{AttemptView, attempt_of, begun_at}, SystemWith.{SystemWith, system_with}}

module _ {Lock Job Reply Effect Decision ResumePoint : Type 0} (same : Lock → Lock → Bool) (reply_of : Decision → Reply) (effects_of : Decision → List Effect)
    (S : SystemWith Lock Job Reply Effect Decision) where
  pub begun : (job : Job) (first : Lock) (point : ResumePoint) (new : AttemptView Lock Job Decision ResumePoint) → first ≡ S.first job
      → new ≡ begun_at job first point → attempt_of reply_of effects_of new ≡ begin (system_with same reply_of effects_of S) job
  begun job first point new is made = ap (attempt_of reply_of effects_of) made ∙ ap (λ (lock : Lock). begin_with lock job) is

  pub begun_again : (p now new : AttemptView Lock Job Decision ResumePoint) (first : Lock) (point : ResumePoint) → p ≡ now → first ≡ S.first p.job
      → new ≡ record (begun_at now.job first point) { count = now.count }
      → attempt_of reply_of effects_of new ≡ begin (system_with same reply_of effects_of S) now.job
  begun_again p now new first point inside is made =
      ap (attempt_of reply_of effects_of) made
      ∙ ap (λ (lock : Lock). begin_with lock now.job) (is ∙ ap (λ (x : AttemptView Lock Job Decision ResumePoint). S.first x.job) inside)

-- its point is that of the start
pub starts : {Lock Job Decision ResumePoint : Type 0} (ResumePointIsValid : Job → ResumePoint → Seen Lock → Type 0) (seen : Seen Lock)
    (p now new : AttemptView Lock Job Decision ResumePoint) (first : Lock) (point : ResumePoint) → p ≡ now → ResumePointIsValid p.job point seen → new
    ≡ record (begun_at now.job first point) { count = now.count } → ResumePointIsValid new.job new.point seen
starts ResumePointIsValid seen p now new first point inside valid_point made =
    subst (λ (x : AttemptView _ _ _ _). ResumePointIsValid x.job x.point seen) (sym made)
    (subst (λ (x : AttemptView _ _ _ _). ResumePointIsValid x.job point seen) inside valid_point)
