use Rattle.std.specs.Prelude.{◌≡◌, ℕ, suc, ◌+◌, ◌*◌, ◌/◌, ◌<◌, ◌==◌, List, replicate}
use Rattle.turns.specs.Script.{Script}
use Rattle.turns.specs.Sharing.{Sharing}
use Rattle.turns.specs.System.{SystemOver, Whole}
use Rattle.turns.specs.declared.clock.Clock.{Clock}
use Rattle.turns.specs.declared.operation.Operation.{Operation}

-- words in groups, each under a lock of its own. The words of all groups come first, then each
-- lock's own word, then the turn word. A lock has the number of its group.
pub record Layout : Type 0 where
  -- how many words are in groups, how many groups there are, and the group of a word
  pub words : ℕ
  pub groups : ℕ
  pub group_of : ℕ → ℕ

-- each word is of one of the groups
abbrev pub IsLayout : Layout → Type 0
IsLayout L = (word : ℕ) → word < L.words → L.group_of word < L.groups

-- so many groups, each of so many words in a row
abbrev pub in_rows : ℕ → ℕ → Layout
in_rows groups each = record {
  words = groups * each;
  groups = groups;
  group_of = λ word. word / each;
}

-- so many groups of one word each
abbrev pub one_each : ℕ → Layout
one_each groups = record { words = groups; groups = groups; group_of = λ word. word }

-- the groups' locks, the words under a lock, and a lock's own word
abbrev pub HasLock : Layout → ℕ → Type 0
HasLock L lock = lock < L.groups

abbrev pub ProtectsIn : Layout → ℕ → ℕ → Type 0
ProtectsIn L lock word = (L.group_of word ≡ lock) × (word < L.words)

abbrev pub lock_word_in : Layout → ℕ → ℕ
lock_word_in L lock = L.words + lock

-- the turn word, the number of words, and the initial words: all are 0
abbrev pub turn_word_in : Layout → ℕ
turn_word_in L = L.words + L.groups

abbrev pub size_of : Layout → ℕ
size_of L = suc (L.words + L.groups)

abbrev pub zeros_of : Layout → List ℕ
zeros_of L = replicate (size_of L) 0

-- a system of jobs on words that are laid out, over the types of its jobs, replies and effects: all
-- of it but the locks and the layout. `SystemOver` says what the fields are.
pub record JobsOver (Job Reply Effect : Type 0) : Type 1 where
  pub IsJob : Job → Type 0
  pub State : Type 0
  pub whole : State → Job → Whole State Reply
  pub opening : State
  pub Decision : Type 0
  pub first : Job → ℕ
  pub script : Job → Script ℕ Decision
  pub reply_of : Decision → Reply
  pub effects_of : Decision → List Effect
  pub effect_word : Effect → ℕ
  pub operation_of : Effect → Operation
  pub Due : Effect → ℕ → Type 0
  pub sharing : Sharing
  pub clock : Clock
  pub Shows : List ℕ → State → Type 0

-- the system of these jobs on words so laid out
abbrev pub laid_out : {Job Reply Effect : Type 0} → Layout → JobsOver Job Reply Effect
    → SystemOver ℕ Job Reply Effect
laid_out L jobs = record {
  IsJob = jobs.IsJob;
  State = jobs.State;
  whole = jobs.whole;
  opening = jobs.opening;
  initial = zeros_of L;
  IsLock = HasLock L;
  same = λ a b. a == b;
  Decision = jobs.Decision;
  first = jobs.first;
  script = jobs.script;
  reply_of = jobs.reply_of;
  effects_of = jobs.effects_of;
  effect_word = jobs.effect_word;
  operation_of = jobs.operation_of;
  Due = jobs.Due;
  size = size_of L;
  Protects = ProtectsIn L;
  lock_word = lock_word_in L;
  sharing = jobs.sharing;
  turn_word = turn_word_in L;
  clock = jobs.clock;
  Shows = jobs.Shows;
}
