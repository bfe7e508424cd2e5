-- attempts with predictions: readings that steps still have to validate
use Rattle.std.specs.Prelude.{◌≡◌, ℕ, Bool, Option, Some, None, List, [], ◌∷◌, ◌++◌, Result, Err, drop, length, take}
use Rattle.turns.specs.Attempt as generic
use Rattle.turns.specs.Script.{Script, walk}
use Rattle.turns.specs.Seen.{AreReadWords, Seen}
use Rattle.turns.specs.System.{System}
use Rattle.turns.specs.declared.phase.Phase.TheVariants.{Tests}
use Rattle.turns.specs.declared.reading.Reading.{Reading}
use Rattle.turns.specs.declared.wanted.Wanted.{Wanted}
use Rattle.turns.specs.declared.wanted.Wanted.TheVariants.{Test}
use Rattle.attempts.specs.Points.{seen_with}
use Rattle.attempts.specs.Validity.{CanWalk, IsValidInBounds, ResumePointIsValidIn, AttemptView, AreScripts, attempt_of}
use Rattle.attempts.specs.SystemWith.{SystemWith, system_with}

-- the walk tests each of these words in turn, if the ones before have the predicted values, and
-- then comes to this
unfoldable pub Predicts : {Lock A : Type 0} → (Lock → Lock → Bool) → Script Lock A → Seen Lock
    → List (Reading ℕ) → Result A (Wanted Lock ℕ) → Type 0
Predicts same script seen [] found = walk same seen script ≡ found
Predicts same script seen (reading ∷ speculation) found =
    (walk same seen script ≡ Err (Test reading.word))
    × Predicts same script (seen_with seen reading.word reading.value) speculation found

-- an attempt with predictions: as it is if all of its readings are right, and how many of them are
-- validated, or None if all are
pub record Speculation (Lock Job Decision ResumePoint : Type 0) : Type 0 where
  pub predicted : AttemptView Lock Job Decision ResumePoint
  pub validated : Option ℕ

-- the readings that are validated
abbrev pub validated_of : Option ℕ → List (Reading ℕ) → List (Reading ℕ)
validated_of None readings = readings
validated_of (Some made) readings = take made readings

-- the readings that are predictions
abbrev pub predicted_of : Option ℕ → List (Reading ℕ) → List (Reading ℕ)
predicted_of None readings = []
predicted_of (Some made) readings = drop made readings

-- the predictions of an attempt
abbrev pub predictions : {Lock Job Decision ResumePoint : Type 0}
    → Speculation Lock Job Decision ResumePoint
    → List (Reading ℕ)
predictions p = predicted_of p.validated p.predicted.readings

-- what an attempt holds and has read
abbrev pub seen_of : {Lock Job Decision ResumePoint : Type 0}
    → AttemptView Lock Job Decision ResumePoint → Seen Lock
seen_of p = record { held = p.held; readings = p.readings }

-- an attempt with these readings that has decided nothing and tests this word next
abbrev pub waiting : {Lock Job Decision ResumePoint : Type 0} (Reply Effect : Type 0)
    → AttemptView Lock Job Decision ResumePoint → List (Reading ℕ) → ℕ
    → generic.Attempt Lock Job Reply Effect
waiting Reply Effect p readings word = record {
  job = p.job;
  readings = readings;
  held = p.held;
  phase = Tests word;
  reply = None;
  effects = [];
}

module _ {Lock Job Reply Effect Decision ResumePoint : Type 0} (reply_of : Decision → Reply)
    (effects_of : Decision → List Effect) where
  -- the attempt by its validated readings alone: as predicted if no predictions are left, and
  -- otherwise at the test of the first one's word
  abbrev pub now_by : AttemptView Lock Job Decision ResumePoint → Option ℕ → List (Reading ℕ)
      → generic.Attempt Lock Job Reply Effect
  now_by predicted validated [] = attempt_of reply_of effects_of predicted
  now_by predicted validated (first ∷ rest) = waiting Reply Effect predicted
      (validated_of validated predicted.readings) first.word

  abbrev pub now_of : Speculation Lock Job Decision ResumePoint
      → generic.Attempt Lock Job Reply Effect
  now_of p = now_by p.predicted p.validated (predictions p)

module _ {Lock Job Reply Effect Decision ResumePoint : Type 0} (same : Lock → Lock → Bool)
    (reply_of : Decision → Reply) (effects_of : Decision → List Effect)
    (S : SystemWith Lock Job Reply Effect Decision)
    (ResumePointIsValid : Job → ResumePoint → Seen Lock → Type 0) where
  abbrev O : System
  O = system_with same reply_of effects_of S

  -- these readings are predictions: the walk tests their words in turn after the validated ones,
  -- leads to the attempt as predicted, and leaves a valid resume point
  pub record ArePredictions (predicted : AttemptView Lock Job Decision ResumePoint)
      (made left : List (Reading ℕ))
      : Type 0 where
    pub all : predicted.readings ≡ made ++ left
    pub found : Result Decision (Wanted Lock ℕ)
    pub predicts : Predicts same (S.script predicted.job)
        (record { held = predicted.held; readings = made })
        left found
    pub comes : attempt_of reply_of effects_of predicted
        ≡ generic.goes_on O (waiting Reply Effect predicted predicted.readings 0) found
    pub valid_point : ResumePointIsValid predicted.job predicted.point (seen_of predicted)

  -- with predictions, they are those of the walk; without, the resume point is valid as long as
  -- the attempt goes through its script
  abbrev pub ResumePointIsValidBy : AttemptView Lock Job Decision ResumePoint → Option ℕ → List
      (Reading ℕ) → Type 0
  ResumePointIsValidBy predicted validated [] = ResumePointIsValidIn ResumePointIsValid
      (attempt_of reply_of effects_of predicted) predicted.point predicted.phase
  ResumePointIsValidBy predicted validated (first ∷ rest) = ArePredictions predicted
      (validated_of validated predicted.readings) (first ∷ rest)

  -- the attempt is valid by its validated readings alone, and so are its predictions and its
  -- resume point
  pub record IsValidSpeculation (most_readings most_held : ℕ)
      (p : Speculation Lock Job Decision ResumePoint)
      : Type 0 where
    pub place : IsValidInBounds O most_readings most_held (now_of reply_of effects_of p)
    pub valid_point : ResumePointIsValidBy p.predicted p.validated (predictions p)

  -- the attempt has walked on as the law has it, and its predictions and its resume point are
  -- valid
  pub record HasPredicted (old : AttemptView Lock Job Decision ResumePoint)
      (new : Speculation Lock Job Decision ResumePoint)
      : Type 0 where
    pub change : now_of reply_of effects_of new
        ≡ generic.walks_on O (attempt_of reply_of effects_of old)
    pub valid_point : ResumePointIsValidBy new.predicted new.validated (predictions new)

  -- a walk by a snapshot has kept what was held and read before, and its resume point is valid; if
  -- it seized no lock, it tested in turn the words that it read, and came to this
  pub record HasWalkedSnapshot (old new : AttemptView Lock Job Decision ResumePoint)
      (found : Result Decision (Wanted Lock ℕ)) : Type 0 where
    pub still : new ≡ record old { point = new.point; readings = new.readings; held = new.held }
    pub back_held : take (length old.held) new.held ≡ old.held
    pub back_read : take (length old.readings) new.readings ≡ old.readings
    pub valid_point : ResumePointIsValid old.job new.point (seen_of new)
    pub held : length new.held ≡ length old.held → new.held ≡ old.held
    pub read : new.readings ≡ old.readings ++ drop (length old.readings) new.readings
    pub predicts : length new.held ≡ length old.held
        → Predicts same (S.script old.job) (seen_of old)
        (drop (length old.readings) new.readings) found

-- the attempt may predict: the setting is admissible, the jobs are scripts, and the attempt can
-- walk and has decided nothing
pub record MayPredict {Lock Job Reply Effect Decision ResumePoint : Type 0} (Setting : Type 0)
    (same : Lock → Lock → Bool) (reply_of : Decision → Reply) (effects_of : Decision → List Effect)
    (S : SystemWith Lock Job Reply Effect Decision)
    (ResumePointIsValid : Job → ResumePoint → Seen Lock → Type 0)
    (most_readings most_held : ℕ) (p : AttemptView Lock Job Decision ResumePoint) : Type 0 where
  pub setting : Setting
  pub scripts : AreScripts same reply_of effects_of S ResumePointIsValid most_readings most_held
  pub walk : CanWalk same reply_of effects_of S ResumePointIsValid p
  pub undecided : p.decision ≡ None

-- an answer may be applied: the setting is admissible, the jobs are scripts, and the attempt is
-- valid
pub record MayApply {Lock Job Reply Effect Decision ResumePoint : Type 0} (Setting : Type 0)
    (same : Lock → Lock → Bool) (reply_of : Decision → Reply) (effects_of : Decision → List Effect)
    (S : SystemWith Lock Job Reply Effect Decision)
    (ResumePointIsValid : Job → ResumePoint → Seen Lock → Type 0)
    (most_readings most_held : ℕ) (p : Speculation Lock Job Decision ResumePoint) : Type 0 where
  pub setting : Setting
  pub scripts : AreScripts same reply_of effects_of S ResumePointIsValid most_readings most_held
  pub valid : IsValidSpeculation same reply_of effects_of S ResumePointIsValid most_readings
      most_held p

-- the attempt may roll back to its first `readings` readings: its job is one of the system, and
-- these readings have 64 bits
pub record MayRollBack {Lock Job Reply Effect Decision ResumePoint : Type 0}
    (S : SystemWith Lock Job Reply Effect Decision) (readings : ℕ)
    (p : AttemptView Lock Job Decision ResumePoint) : Type 0 where
  pub job : S.IsJob p.job
  pub read : AreReadWords (take readings p.readings)
