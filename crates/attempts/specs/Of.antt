-- the definitions of attempts, for jobs given as scripts under a setting
use Rattle.std.specs.Prelude.{ℕ, Bool}
use Rattle.turns.specs.Attempt as turns
use Rattle.turns.specs.System.{System}
use Rattle.turns.specs.declared.answer.Answer.{Answer}
use Rattle.turns.specs.declared.reading.Reading.{Reading}
use Rattle.attempts.specs.Validity as standing
use Rattle.attempts.specs.Validity.{AttemptView}
use Rattle.attempts.specs.SystemWith.{system_with}
use Rattle.attempts.specs.Applied as taken
use Rattle.attempts.specs.declared.scripts.Scripts.{Ghosts}

module _ {Self : Type 0} {R H : ℕ} {Setting Lock Job Reply Effect Decision ResumePoint : Type 0}
    (S : Ghosts Self R H Setting Lock Job Reply Effect Decision ResumePoint) where
  abbrev pub attempt_of : AttemptView Lock Job Decision ResumePoint
      → turns.Attempt Lock Job Reply Effect
  attempt_of p = standing.attempt_of S.reply_of S.effects_of p

  -- the resume point is valid wherever the phase needs it
  abbrev pub ResumePointHolds : Setting → AttemptView Lock Job Decision ResumePoint → Type 0
  ResumePointHolds setting p = standing.ResumePointIsValidIn (S.ResumePointIsValid setting)
      (attempt_of p) p.point p.phase

module _ {Self : Type 0} {R H : ℕ} {Setting Lock Job Reply Effect Decision ResumePoint : Type 0}
    (same : Lock → Lock → Bool)
    (S : Ghosts Self R H Setting Lock Job Reply Effect Decision ResumePoint)
    (setting : Setting) where
  abbrev pub system_of : System
  system_of = system_with same S.reply_of S.effects_of (S.system setting)

  abbrev pub AreScripts : Type 0
  AreScripts =
      standing.AreScripts same S.reply_of S.effects_of (S.system setting)
      (S.ResumePointIsValid setting) R H

  abbrev pub IsValid : AttemptView Lock Job Decision ResumePoint → Type 0
  IsValid = standing.IsValid same S.reply_of S.effects_of (S.system setting)
      (S.ResumePointIsValid setting) R H

  abbrev pub CanWalk : AttemptView Lock Job Decision ResumePoint → Type 0
  CanWalk = standing.CanWalk same S.reply_of S.effects_of (S.system setting)
      (S.ResumePointIsValid setting)

  abbrev pub MayContinue : AttemptView Lock Job Decision ResumePoint → Type 0
  MayContinue = standing.MayContinue (S.IsSetting setting) same S.reply_of S.effects_of
      (S.system setting)
      (S.ResumePointIsValid setting) R H

  abbrev pub MayRead : Reading ℕ → AttemptView Lock Job Decision ResumePoint → Type 0
  MayRead = taken.MayRead same S.reply_of S.effects_of (S.system setting)
      (S.ResumePointIsValid setting) R

  abbrev pub WalksOn : (old new : AttemptView Lock Job Decision ResumePoint) → Type 0
  WalksOn = taken.WalksOn same S.reply_of S.effects_of (S.system setting)
      (S.ResumePointIsValid setting)

  abbrev pub Applies : Answer → (old new : AttemptView Lock Job Decision ResumePoint) → Type 0
  Applies = taken.Applies same S.reply_of S.effects_of (S.system setting)
      (S.ResumePointIsValid setting)
