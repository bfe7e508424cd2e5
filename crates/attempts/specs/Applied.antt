use Rattle.std.specs.Prelude.{◌≡◌, ◌<◌, ◌^◌, ◌∷◌, ◌++◌, [], ℕ, Bool, List, length, None, Some, Result, Ok, Err, ⊤}
use Rattle.turns.specs.Attempt as turns
use Rattle.turns.specs.Script.{value_read, walk}
use Rattle.turns.specs.Seen.{AreReadWords, Seen}
use Rattle.turns.specs.declared.answer.Answer.{Answer}
use Rattle.turns.specs.declared.answer.Answer.TheVariants.{Value}
use Rattle.turns.specs.declared.phase.Phase.TheVariants.{Tests, Turns}
use Rattle.turns.specs.declared.reading.Reading.{Reading}
use Rattle.turns.specs.declared.wanted.Wanted.{Wanted}
use Rattle.turns.specs.declared.wanted.Wanted.TheVariants.{Test}
use Rattle.attempts.specs.Validity.{CanWalk, ResumePointIsValidIn, AttemptView, attempt_of, wanted_phase}
use Rattle.attempts.specs.SystemWith.{SystemWith, system_with}

-- if the answer is the value of a tested word, it fits 64 bits
abbrev pub FitsValue : Answer → Type 0
FitsValue (Value value) = value < 2 ^ 64
FitsValue answer = ⊤

-- the attempt continued with the result of its walk: at its turn, or at what the walk needs next
abbrev pub continued : {Lock Job Decision ResumePoint : Type 0}
    → AttemptView Lock Job Decision ResumePoint
    → Result Decision (Wanted Lock ℕ) → AttemptView Lock Job Decision ResumePoint
continued p (Ok decision) = record p { phase = Turns; decision = Some decision; made = 0 }
continued p (Err wanted) = record p { phase = wanted_phase wanted }

-- the attempt tests this word next, has not read it and has room for the reading; the value fits
-- 64 bits, and the attempt can walk once it has read it
pub record MayRead {Lock Job Reply Effect Decision ResumePoint : Type 0} (same : Lock → Lock → Bool)
    (reply_of : Decision → Reply) (effects_of : Decision → List Effect)
    (S : SystemWith Lock Job Reply Effect Decision)
    (ResumePointIsValid : Job → ResumePoint → Seen Lock → Type 0)
    (most_readings : ℕ) (reading : Reading ℕ)
    (p : AttemptView Lock Job Decision ResumePoint) : Type 0 where
  pub tests : p.phase ≡ Tests reading.word
  pub room : length p.readings < most_readings
  pub unread : value_read p.readings reading.word ≡ None
  pub fits : reading.value < 2 ^ 64
  pub walk : CanWalk same reply_of effects_of S ResumePointIsValid
      (record p { readings = p.readings ++ reading ∷ [] })

-- the attempt has walked on as the law has it, its resume point is valid, and its count stays
pub record WalksOn {Lock Job Reply Effect Decision ResumePoint : Type 0} (same : Lock → Lock → Bool)
    (reply_of : Decision → Reply) (effects_of : Decision → List Effect)
    (S : SystemWith Lock Job Reply Effect Decision)
    (ResumePointIsValid : Job → ResumePoint → Seen Lock → Type 0)
    (old new : AttemptView Lock Job Decision ResumePoint) : Type 0 where
  pub change : attempt_of reply_of effects_of new
      ≡ turns.walks_on (system_with same reply_of effects_of S) (attempt_of reply_of effects_of old)
  pub point : ResumePointIsValidIn ResumePointIsValid
      (attempt_of reply_of effects_of new) new.point new.phase
  pub count : new.count ≡ old.count

-- the attempt has changed by an answer as the law has it, its resume point is valid, and the step
-- isn't counted yet
pub record Applies {Lock Job Reply Effect Decision ResumePoint : Type 0} (same : Lock → Lock → Bool)
    (reply_of : Decision → Reply) (effects_of : Decision → List Effect)
    (S : SystemWith Lock Job Reply Effect Decision)
    (ResumePointIsValid : Job → ResumePoint → Seen Lock → Type 0)
    (answer : Answer) (old new : AttemptView Lock Job Decision ResumePoint) : Type 0 where
  pub fits : FitsValue answer
  pub change : attempt_of reply_of effects_of new
      ≡ turns.change (system_with same reply_of effects_of S) (attempt_of reply_of effects_of old)
      answer
  pub point : ResumePointIsValidIn ResumePointIsValid
      (attempt_of reply_of effects_of new) new.point new.phase
  pub count : new.count ≡ old.count

-- what a walk requires: an admissible setting, a job of the system, readings of 64 bits, and a
-- valid resume point
pub record MayWalk {Lock Job Reply Effect Decision ResumePoint : Type 0} (Setting : Type 0)
    (S : SystemWith Lock Job Reply Effect Decision)
    (ResumePointIsValid : Job → ResumePoint → Seen Lock → Type 0)
    (job : Job) (point : ResumePoint) (seen : Seen Lock) : Type 0 where
  pub setting : Setting
  pub right : S.IsJob job
  pub read : AreReadWords seen.readings
  pub valid_point : ResumePointIsValid job point seen

-- what `following` requires: an admissible setting, a job of the system, a valid resume point, and
-- a walk that needs this word next
pub record MayAskNext {Lock Job Reply Effect Decision ResumePoint : Type 0} (Setting : Type 0)
    (same : Lock → Lock → Bool) (S : SystemWith Lock Job Reply Effect Decision)
    (ResumePointIsValid : Job → ResumePoint → Seen Lock → Type 0) (job : Job) (point : ResumePoint)
    (seen : Seen Lock)
    (word : ℕ) : Type 0 where
  pub setting : Setting
  pub right : S.IsJob job
  pub valid_point : ResumePointIsValid job point seen
  pub wants : walk same seen (S.script job) ≡ Err (Test word)
