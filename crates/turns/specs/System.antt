use Rattle.std.specs.Prelude.{◌≡◌, ◌↔◌, ℕ, ◌<◌, ◌==◌, if◌then◌else◌, Bool, true, List, [], ◌∷◌, ◌++◌, length, fold, slice_index, slice_set, ⊤, Err, ◌^◌}
use Rattle.turns.specs.Among.{IsIn}
use Rattle.turns.specs.Operations.{applied, FitsWord}
use Rattle.turns.specs.Script.{Script, Ends, TestThen, SeizeThen, run, first_wanted}
use Rattle.turns.specs.Sharing.{Sharing, IsSharing, IsUnused}
use Rattle.turns.specs.declared.clock.Clock.{Clock}
use Rattle.turns.specs.declared.operation.Operation.{Operation}
use Rattle.turns.specs.declared.wanted.Wanted.TheVariants.{Seize}

-- the state that a job leaves, and its reply
pub record Whole (State Reply : Type 0) : Type 0 where
  pub state : State
  pub reply : Reply

-- a system of jobs, over the types of its locks, jobs, replies and effects: what the jobs do one
-- after another, what they do step by step, and the words that they do it on
pub record SystemOver (Lock Job Reply Effect : Type 0) : Type 1 where
  -- the jobs one after another, from the opening state on
  pub IsJob : Job → Type 0
  pub State : Type 0
  pub whole : State → Job → Whole State Reply
  pub opening : State
  -- the initial words
  pub initial : List ℕ
  -- the jobs step by step: the lock that a job seizes first, and what it does until it decides
  pub IsLock : Lock → Type 0
  pub same : Lock → Lock → Bool
  pub Decision : Type 0
  pub first : Job → Lock
  pub script : Job → Script Lock Decision
  -- a decision's reply, and its effects in their order
  pub reply_of : Decision → Reply
  pub effects_of : Decision → List Effect
  -- an effect's word, the operation that makes it there, and the number that it relies on finding
  pub effect_word : Effect → ℕ
  pub operation_of : Effect → Operation
  pub Due : Effect → ℕ → Type 0
  -- the words: how many there are, which lock protects a word, each lock's own word and how it is
  -- shared, the turn word, and whether it counts the turns
  pub size : ℕ
  pub Protects : Lock → ℕ → Type 0
  pub lock_word : Lock → ℕ
  pub sharing : Sharing
  pub turn_word : ℕ
  pub clock : Clock
  -- these words show this state
  pub Shows : List ℕ → State → Type 0

-- a system of jobs together with its types
pub record System : Type 1 where
  pub Lock : Type 0
  pub Job : Type 0
  pub Reply : Type 0
  pub Effect : Type 0
  pub over : SystemOver Lock Job Reply Effect
  pub open over use *

-- a system over given types
abbrev pub system_of : {Lock Job Reply Effect : Type 0} → SystemOver Lock Job Reply Effect → System
system_of {Lock} {Job} {Reply} {Effect} over =
    record { Lock = Lock; Job = Job; Reply = Reply; Effect = Effect; over = over }

-- each of these numbers fits 64 bits
abbrev pub AreWords : List ℕ → Type 0
AreWords words = (n : ℕ) → slice_index words n < 2 ^ 64

-- what effects, one after another, make of the number in a word
abbrev pub fold_effects : {Effect : Type 0} → (Effect → ℕ) → (Effect → ℕ → ℕ) → List Effect → ℕ → ℕ
    → ℕ
fold_effects word_of on [] word value = value
fold_effects word_of on (effect ∷ effects) word value =
    fold_effects word_of on effects word (if word_of effect == word then on effect value else value)

module _ (O : System) where
  open O use {
    Lock,
    Job,
    State,
    Reply,
    Effect,
    Decision,
    IsLock,
    Protects,
    effect_word,
    Due,
    effects_of,
    reply_of,
    size,
  }

  -- what an effect makes of the number that it finds in its word
  abbrev pub effect_on : Effect → ℕ → ℕ
  effect_on effect value = applied (O.operation_of effect) value

  -- the word is under one of these locks
  pub record IsUnder (locks : List Lock) (number : ℕ) : Type 0 where
    pub lock : Lock
    pub protects : Protects lock number
    pub held : IsIn lock locks

  -- each effect is on a word under one of these locks
  abbrev pub AreUnder : List Lock → List Effect → Type 0
  AreUnder held effects =
      (effect : Effect) → IsIn effect effects → IsUnder held (effect_word effect)

  -- each effect leaves 64 bits in its word
  abbrev pub FitWords : List Effect → Type 0
  FitWords effects = (effect : Effect) → IsIn effect effects → FitsWord (O.operation_of effect)

  -- the effects may be made with these locks held: they are on words under them, in which they
  -- leave 64 bits
  pub record MayMake (held : List Lock) (effects : List Effect) : Type 0 where
    pub under : AreUnder held effects
    pub fit : FitWords effects

  -- from these locks on, the script tests only words under the locks seized by then, and each of
  -- its ends fits these locks, whatever values of 64 bits it reads
  unfoldable pub KeepsTo : {A : Type 0} → (List Lock → A → Type 0) → List Lock → Script Lock A
      → Type 0
  KeepsTo Fits held (Ends found) = Fits held found
  KeepsTo Fits held (TestThen word script) =
      IsUnder held word × ((value : ℕ) → value < 2 ^ 64 → KeepsTo Fits held (script value))
  KeepsTo Fits held (SeizeThen lock script) = IsLock lock × KeepsTo Fits (held ++ lock ∷ []) script

  -- the decision's effects may be made with these locks held
  abbrev pub DecidesUnder : List Lock → Decision → Type 0
  DecidesUnder held decision = MayMake held (effects_of decision)

  -- the words after an effect
  abbrev pub perform : List ℕ → Effect → List ℕ
  perform words effect =
      slice_set words (effect_word effect)
      (effect_on effect (slice_index words (effect_word effect)))

  -- the words after effects, one after another
  unfoldable pub perform_all : List ℕ → List Effect → List ℕ
  perform_all words effects = fold perform words effects

  -- each effect finds what it relies on when it is made
  abbrev pub AreDue : List ℕ → List Effect → Type 0
  AreDue words [] = ⊤
  AreDue words (effect ∷ effects) =
      Due effect (slice_index words (effect_word effect)) × AreDue (perform words effect) effects

  -- the decision is that of the job done whole: it has its reply, and effects that find what they
  -- rely on and lead to words that show its state
  pub record DecidesAs (words : List ℕ) (after : Whole State Reply)
      (decision : Decision) : Type 0 where
    pub reply : reply_of decision ≡ after.reply
    pub shows : O.Shows (perform_all words (effects_of decision)) after.state
    pub due : AreDue words (effects_of decision)

  -- two lists of words are the same under every lock
  pub record AreAlike (words other : List ℕ) : Type 0 where
    pub this_length : length words ≡ size
    pub that_length : length other ≡ size
    pub under : (number : ℕ) (lock : Lock) → Protects lock number
        → slice_index words number ≡ slice_index other number

  -- the layout of the words: all are within `size`, lock words and the turn word are apart and
  -- under no lock, and each word is under at most one
  pub record AreApart : Type 0 where
    pub one_lock_word : (a b : Lock) → IsLock a → IsLock b → O.lock_word a ≡ O.lock_word b → a ≡ b
    pub lock_word_there : (a : Lock) → IsLock a → O.lock_word a < size
    pub lock_word_bare : (a lock : Lock) → IsLock a → ¬ Protects lock (O.lock_word a)
    pub turn_there : O.turn_word < size
    pub turn_bare : (lock : Lock) → ¬ Protects lock O.turn_word
    pub turn_apart : (a : Lock) → IsLock a → ¬ (O.lock_word a ≡ O.turn_word)
    pub word_there : (number : ℕ) (lock : Lock) → Protects lock number → number < size
    pub lock_there : (number : ℕ) (lock : Lock) → Protects lock number → IsLock lock
    pub one_protector : (number : ℕ) (a b : Lock) → Protects a number → Protects b number → a ≡ b

  -- what has to hold of the initial words: they have 64 bits and show the opening state, nobody
  -- holds or requests a lock, and no turn was taken
  pub record IsInitial : Type 0 where
    pub initial_length : length O.initial ≡ size
    pub are_words : AreWords O.initial
    pub shows : O.Shows O.initial O.opening
    pub unused : (lock : Lock) → IsLock lock →
        IsUnused O.sharing (slice_index O.initial (O.lock_word lock))
    pub no_turn : slice_index O.initial O.turn_word ≡ 0

  -- what has to be shown of a system
  pub record IsSystem : Type 0 where
    pub sharing : IsSharing O.sharing
    pub same : (a b : Lock) → (O.same a b ≡ true) ↔ (a ≡ b)
    pub words : AreApart
    -- a job first seizes its first lock, and tests and decides only under the locks that it holds
    pub first : (job : Job) → O.IsJob job → first_wanted (O.script job) ≡ Err (Seize (O.first job))
    pub keeps : (job : Job) → O.IsJob job → KeepsTo DecidesUnder [] (O.script job)
    -- run alone on words of 64 bits that show a state, a job decides as it does when done whole
    pub decides : (job : Job) (words : List ℕ) (state : State) → O.IsJob job →
        length words ≡ size → AreWords words → O.Shows words state →
        DecidesAs words (O.whole state job) (run words (O.script job))
    -- the words under locks alone tell what state the words show
    pub looks : (words other : List ℕ) (state : State) → AreAlike words other → O.Shows words state
        → O.Shows other state
    pub opens : IsInitial
