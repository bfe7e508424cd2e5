use Rattle.std.specs.Prelude.{◌<◌, ◌-◌, ℕ, Bool, Option, Some, None, List, [], drop, length, option_map, ⊤}
use Rattle.turns.specs.Among.{IsIn}
use Rattle.turns.specs.Attempt as generic
use Rattle.turns.specs.Script.{AsksAtMost, left}
use Rattle.turns.specs.Seen.{Seen, AreReadWords}
use Rattle.turns.specs.System.{System, IsSystem}
use Rattle.turns.specs.declared.phase.Phase.{Phase}
use Rattle.turns.specs.declared.phase.Phase.TheVariants.{Requests, Seizes, Tests}
use Rattle.turns.specs.declared.reading.Reading.{Reading}
use Rattle.turns.specs.declared.wanted.Wanted.{Wanted}
use Rattle.turns.specs.declared.wanted.Wanted.TheVariants.{Seize, Test}
use Rattle.attempts.specs.Points.{Extends}
use Rattle.attempts.specs.SystemWith.{SystemWith, system_with}

-- an attempt at run time
pub record AttemptView (Lock Job Decision ResumePoint : Type 0) : Type 0 where
  pub job : Job
  pub point : ResumePoint
  pub readings : List (Reading ℕ)
  pub held : List Lock
  pub phase : Phase Lock ℕ
  pub decision : Option Decision
  -- the number of the decision's effects that are made
  pub made : ℕ
  -- the number of its steps since it began
  pub count : ℕ

-- an attempt that has made no step: it requests this lock first, and its first walk resumes from
-- this point
abbrev pub begun_at : {Lock Job Decision ResumePoint : Type 0} → Job → Lock → ResumePoint
    → AttemptView Lock Job Decision ResumePoint
begun_at job first point = record {
  job = job;
  point = point;
  readings = [];
  held = [];
  phase = Requests first;
  decision = None;
  made = 0;
  count = 0;
}

-- the phase of an attempt whose walk needs this next
abbrev pub wanted_phase : {Lock : Type 0} → Wanted Lock ℕ → Phase Lock ℕ
wanted_phase (Seize lock) = Requests lock
wanted_phase (Test word) = Tests word

-- the decision's effects that are still to be made
abbrev pub effects_left : {Decision Effect : Type 0} → (Decision → List Effect) → Option Decision
    → ℕ → List Effect
effects_left effects_of None made = []
effects_left effects_of (Some decision) made = drop made (effects_of decision)

-- an attempt at run time as an attempt of the law
abbrev pub attempt_of : {Lock Job Reply Effect Decision ResumePoint : Type 0} → (Decision → Reply)
    → (Decision → List Effect) → AttemptView Lock Job Decision ResumePoint
    → generic.Attempt Lock Job Reply Effect
attempt_of reply_of effects_of p = record {
  job = p.job;
  readings = p.readings;
  held = p.held;
  phase = p.phase;
  reply = option_map reply_of p.decision;
  effects = effects_left effects_of p.decision p.made;
}

module _ (O : System) (most_readings most_held : ℕ) where
  open O use {Lock}

  -- the attempt has room for all that the rest of its script tests and seizes
  abbrev pub HasRoom : generic.AttemptOf O → Type 0
  HasRoom a =
      AsksAtMost (most_readings - length a.readings) (most_held - length a.held)
      (left O.same (generic.seen_of a) (O.script a.job))

  -- the attempt has this room as long as it goes through its script
  abbrev pub HasRoomIn : generic.AttemptOf O → Phase Lock ℕ → Type 0
  HasRoomIn a (Requests lock) = HasRoom a
  HasRoomIn a (Seizes lock expected) = HasRoom a
  HasRoomIn a (Tests word) = HasRoom a
  HasRoomIn a phase = ⊤

  abbrev pub AreLocks : List Lock → Type 0
  AreLocks held = (lock : Lock) → IsIn lock held → O.IsLock lock

  -- each effect is on one of the system's words
  abbrev pub AreThere : List O.Effect → Type 0
  AreThere effects = (effect : O.Effect) → IsIn effect effects → O.effect_word effect < O.size

  -- the attempt is valid as the law has it, has room for the rest of its script, holds locks of
  -- the system, has readings of 64 bits, and its effects are on words of the system
  pub record IsValidInBounds (a : generic.AttemptOf O) : Type 0 where
    pub job : O.IsJob a.job
    pub comes : generic.IsValid O a
    pub room : HasRoomIn a a.phase
    pub held : AreLocks a.held
    pub read : AreReadWords a.readings
    pub effects : AreThere a.effects

-- the resume point is valid as long as the attempt goes through its script
abbrev pub ResumePointIsValidIn : {Lock Job Reply Effect ResumePoint : Type 0}
    → (Job → ResumePoint → Seen Lock → Type 0) → generic.Attempt Lock Job Reply Effect
    → ResumePoint → Phase Lock ℕ → Type 0
ResumePointIsValidIn Valid a point (Requests lock) = Valid a.job point (generic.seen_of a)
ResumePointIsValidIn Valid a point (Seizes lock expected) = Valid a.job point (generic.seen_of a)
ResumePointIsValidIn Valid a point (Tests word) = Valid a.job point (generic.seen_of a)
ResumePointIsValidIn Valid a point phase = ⊤

module _ {Lock Job Reply Effect Decision ResumePoint : Type 0} (same : Lock → Lock → Bool)
    (reply_of : Decision → Reply) (effects_of : Decision → List Effect)
    (S : SystemWith Lock Job Reply Effect Decision)
    (ResumePointIsValid : Job → ResumePoint → Seen Lock → Type 0) where
  -- the attempt is valid, and so is its resume point
  pub record IsValid (most_readings most_held : ℕ) (p : AttemptView Lock Job Decision ResumePoint)
      : Type 0 where
    pub place : IsValidInBounds (system_with same reply_of effects_of S) most_readings most_held
        (attempt_of reply_of effects_of p)
    pub point : ResumePointIsValidIn ResumePointIsValid
        (attempt_of reply_of effects_of p) p.point p.phase

  -- the attempt can walk: its job is one of the system, its readings have 64 bits, and its resume
  -- point is valid
  pub record CanWalk (p : AttemptView Lock Job Decision ResumePoint) : Type 0 where
    pub job : S.IsJob p.job
    pub read : AreReadWords p.readings
    pub valid_point : ResumePointIsValid p.job p.point
        (generic.seen_of (attempt_of reply_of effects_of p))

  -- the jobs are a system, none asks for more than there is room for, and a resume point that is
  -- valid stays valid when more is held or read
  pub record AreScripts (most_readings most_held : ℕ) : Type 0 where
    pub is_system : IsSystem (system_with same reply_of effects_of S)
    pub asks : (job : Job) → S.IsJob job → AsksAtMost most_readings most_held (S.script job)
    pub stays_valid : (job : Job) (point : ResumePoint) (seen more : Seen Lock)
        → Extends same seen more
        → ResumePointIsValid job point seen → ResumePointIsValid job point more

-- the attempt may go on: the setting is admissible, the jobs are scripts, and the attempt is valid
pub record MayContinue {Lock Job Reply Effect Decision ResumePoint : Type 0} (Setting : Type 0)
    (same : Lock → Lock → Bool) (reply_of : Decision → Reply) (effects_of : Decision → List Effect)
    (S : SystemWith Lock Job Reply Effect Decision)
    (ResumePointIsValid : Job → ResumePoint → Seen Lock → Type 0)
    (most_readings most_held : ℕ) (p : AttemptView Lock Job Decision ResumePoint) : Type 0 where
  pub setting : Setting
  pub scripts : AreScripts same reply_of effects_of S ResumePointIsValid most_readings most_held
  pub valid : IsValid same reply_of effects_of S ResumePointIsValid most_readings most_held p
