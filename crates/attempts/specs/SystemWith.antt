use Rattle.std.specs.Prelude.{ℕ, Bool, List}
use Rattle.turns.specs.Script.{Script}
use Rattle.turns.specs.Sharings.{sharing_of}
use Rattle.turns.specs.System.{System, SystemOver, Whole, system_of}
use Rattle.turns.specs.declared.clock.Clock.{Clock}
use Rattle.turns.specs.declared.lock_sharing.LockSharing.{LockSharing}
use Rattle.turns.specs.declared.operation.Operation.{Operation}

-- a system of jobs, over the types of its locks, jobs, replies, effects and decisions: all of it
-- but the test of two locks, and the reply and effects of a decision
pub record SystemWith (Lock Job Reply Effect Decision : Type 0) : Type 1 where
  pub IsJob : Job → Type 0
  pub State : Type 0
  pub whole : State → Job → Whole State Reply
  pub opening : State
  pub initial : List ℕ
  pub IsLock : Lock → Type 0
  pub first : Job → Lock
  pub script : Job → Script Lock Decision
  pub effect_word : Effect → ℕ
  pub operation_of : Effect → Operation
  pub Due : Effect → ℕ → Type 0
  pub size : ℕ
  pub Protects : Lock → ℕ → Type 0
  pub lock_word : Lock → ℕ
  pub sharing : LockSharing
  pub turn_word : ℕ
  pub clock : Clock
  pub Shows : List ℕ → State → Type 0

module _ {Lock Job Reply Effect Decision : Type 0} (same : Lock → Lock → Bool)
    (reply_of : Decision → Reply) (effects_of : Decision → List Effect) where
  -- the system, completed with these parts
  abbrev pub over_with : SystemWith Lock Job Reply Effect Decision
      → SystemOver Lock Job Reply Effect
  over_with S = record {
    IsJob = S.IsJob;
    State = S.State;
    whole = S.whole;
    opening = S.opening;
    initial = S.initial;
    IsLock = S.IsLock;
    same = same;
    Decision = Decision;
    first = S.first;
    script = S.script;
    reply_of = reply_of;
    effects_of = effects_of;
    effect_word = S.effect_word;
    operation_of = S.operation_of;
    Due = S.Due;
    size = S.size;
    Protects = S.Protects;
    lock_word = S.lock_word;
    sharing = sharing_of S.sharing;
    turn_word = S.turn_word;
    clock = S.clock;
    Shows = S.Shows;
  }

  abbrev pub system_with : SystemWith Lock Job Reply Effect Decision → System
  system_with S = system_of (over_with S)

-- a system without these parts, whose locks are shared so
abbrev pub without_decisions : {Lock Job Reply Effect : Type 0} → LockSharing
    → (O : SystemOver Lock Job Reply Effect) → SystemWith Lock Job Reply Effect O.Decision
without_decisions sharing O = record {
  IsJob = O.IsJob;
  State = O.State;
  whole = O.whole;
  opening = O.opening;
  initial = O.initial;
  IsLock = O.IsLock;
  first = O.first;
  script = O.script;
  effect_word = O.effect_word;
  operation_of = O.operation_of;
  Due = O.Due;
  size = O.size;
  Protects = O.Protects;
  lock_word = O.lock_word;
  sharing = sharing;
  turn_word = O.turn_word;
  clock = O.clock;
  Shows = O.Shows;
}
