-- the definitions of speculative attempts, for jobs given as scripts under a setting
use Rattle.std.specs.Prelude.{ℕ, Bool, Result}
use Rattle.turns.specs.Attempt as turns
use Rattle.turns.specs.declared.wanted.Wanted.{Wanted}
use Rattle.attempts.specs.Validity.{AttemptView}
use Rattle.attempts.specs.declared.scripts.Scripts.{Ghosts}
use Rattle.desk_attempts.specs.Speculation as speculation
use Rattle.desk_attempts.specs.Speculation.{Speculation}

module _ {Self : Type 0} {R H : ℕ} {Setting Lock Job Reply Effect Decision ResumePoint : Type 0}
    (S : Ghosts Self R H Setting Lock Job Reply Effect Decision ResumePoint) where
  abbrev pub now_of : Speculation Lock Job Decision ResumePoint
      → turns.Attempt Lock Job Reply Effect
  now_of p = speculation.now_of S.reply_of S.effects_of p

module _ {Self : Type 0} {R H : ℕ} {Setting Lock Job Reply Effect Decision ResumePoint : Type 0}
    (same : Lock → Lock → Bool)
    (S : Ghosts Self R H Setting Lock Job Reply Effect Decision ResumePoint)
    (setting : Setting) where
  abbrev pub IsValidSpeculation : Speculation Lock Job Decision ResumePoint → Type 0
  IsValidSpeculation =
      speculation.IsValidSpeculation same S.reply_of S.effects_of (S.system setting)
      (S.ResumePointIsValid setting) R H

  abbrev pub HasPredicted : AttemptView Lock Job Decision ResumePoint
      → Speculation Lock Job Decision ResumePoint → Type 0
  HasPredicted = speculation.HasPredicted same S.reply_of S.effects_of (S.system setting)
      (S.ResumePointIsValid setting)

  abbrev pub HasWalkedSnapshot : (old new : AttemptView Lock Job Decision ResumePoint)
      → Result Decision (Wanted Lock ℕ) → Type 0
  HasWalkedSnapshot = speculation.HasWalkedSnapshot same S.reply_of S.effects_of (S.system setting)
      (S.ResumePointIsValid setting)

  abbrev pub MayPredict : AttemptView Lock Job Decision ResumePoint → Type 0
  MayPredict = speculation.MayPredict (S.IsSetting setting) same S.reply_of S.effects_of
      (S.system setting) (S.ResumePointIsValid setting) R H

  abbrev pub MayApply : Speculation Lock Job Decision ResumePoint → Type 0
  MayApply = speculation.MayApply (S.IsSetting setting) same S.reply_of S.effects_of (S.system setting)
      (S.ResumePointIsValid setting) R H
