use Rattle.std.specs.Prelude.{◌≡◌, ℕ, suc, ◌<◌, ◌≤◌, true, Some, List, [], ◌∷◌, ◌++◌, length, take, slice_index, slice_get, ⊤}
use mathlib.Core.Option.{some}
use lib.ListN.{get_elem?}
use Rattle.turns.specs.Among.{IsIn, AreDistinct}
use Rattle.turns.specs.Clock.{IsCount}
use Rattle.turns.specs.Script.{run}
use Rattle.turns.specs.Sharing.{ShowsRequests}
use Rattle.turns.specs.System.{System, IsUnder, AreUnder, AreDue, effect_on, fold_effects, AreWords, FitWords, MayMake}
use Rattle.turns.specs.Attempt.{AttemptOf, IsValid, act, read_in, request_in}
use Rattle.turns.specs.declared.act.Act.TheVariants.{Finished}
use Rattle.turns.specs.World.{World, ActorOf, Idle, Does, RecordOf, completed, after}
use Rattle.turns.specs.declared.judgement.Judgement.TheVariants.{Free}
use Rattle.turns.specs.declared.phase.Phase.{Phase}
use Rattle.turns.specs.declared.phase.Phase.TheVariants.{Requests, Seizes, Tests, Turns, Withdraws, GivesBack, Operates}
use Rattle.turns.specs.declared.reading.Reading.{Reading}

module _ (O : System) where
  open O use {
    Lock,
    Job,
    State,
    Effect,
    IsLock,
    IsJob,
    effects_of,
    effect_word,
    lock_word,
    sharing,
    whole,
    Shows,
  }

  -- a lock's own word
  abbrev pub word_at : List ℕ → Lock → ℕ
  word_at words lock = slice_index words (lock_word lock)

  -- who holds a lock by its word: 0, or one more than the actor's number
  abbrev pub holder_at : List ℕ → Lock → ℕ
  holder_at words lock = sharing.holder (word_at words lock)

  -- a legal history, from number i and a state on: each record has a number that the clock may
  -- have after i turns, and the reply of its job done whole on the state after those before
  abbrev pub IsLegal : ℕ → State → List (RecordOf O) → Type 0
  IsLegal i state [] = ⊤
  IsLegal i state (r ∷ order) =
      IsJob r.job × IsCount O.clock r.turn i × (r.reply ≡ (whole state r.job).reply)
      × IsLegal (suc i) (whole state r.job).state order

  -- the order has a record of actor k's turn, with this number and turn, and the attempt's job and
  -- reply
  pub record IsRecorded (order : List (RecordOf O)) (k number turn : ℕ)
      (a : AttemptOf O) : Type 0 where
    pub place : ℕ
    pub recorded : RecordOf O
    pub at_place : slice_get order place ≡ Some recorded
    pub turn_is : recorded.turn ≡ turn
    pub actor : recorded.actor ≡ k
    pub number_is : recorded.number ≡ number
    pub job : recorded.job ≡ a.job
    pub reply : a.reply ≡ Some recorded.reply

  -- what was decided at a turn: the script's decision on some words that show the state before the
  -- turn; the effects left are the last of that decision's
  pub record WasDecided (now : List ℕ) (order : List (RecordOf O)) (place : ℕ)
      (a : AttemptOf O) : Type 0 where
    pub words : List ℕ
    pub size : length words ≡ O.size
    pub are_words : AreWords words
    pub shows : Shows words (after O O.opening (take place order))
    pub made : List Effect
    pub effects : effects_of (run words (O.script a.job)) ≡ made ++ a.effects
    -- while an effect is left, those made are on words under the locks held; and what is under
    -- these locks now is what those made have turned the words into
    pub under : (effect : Effect) → IsIn effect a.effects → AreUnder O a.held made
    pub since : (number : ℕ) → IsUnder O a.held number
        → slice_index now number
        ≡ fold_effects effect_word (effect_on O) made number (slice_index words number)

  -- past its turn: the effects left are on words under the locks held and fit them, each finds
  -- what it relies on, the turn is recorded, and it was decided on the state before it
  pub record IsOperating (words : List ℕ) (order : List (RecordOf O)) (k number turn : ℕ)
      (a : AttemptOf O) : Type 0 where
    pub under : AreUnder O a.held a.effects
    pub fit : FitWords O a.effects
    pub due : AreDue O words a.effects
    pub recorded : IsRecorded order k number turn a
    pub decided : WasDecided words order recorded.place a

  -- the expected word is one by which actor k may seize the lock, and has its request if the
  -- sharing shows requests
  pub record MaySeize (k expected : ℕ) : Type 0 where
    pub is_word : sharing.IsWord expected
    pub requested : ShowsRequests sharing → sharing.requests k expected ≡ true
    pub free : sharing.judged k expected ≡ Free

  -- what holds of an attempt in a phase, besides its validity
  abbrev pub FitsIn : World O → ℕ → ℕ → AttemptOf O → Phase Lock ℕ → Type 0
  FitsIn w k number a (Requests lock) = IsLock lock
  FitsIn w k number a (Seizes lock expected) = IsLock lock × MaySeize k expected
  FitsIn w k number a (Tests word) = IsUnder O a.held word
  FitsIn w k number a Turns = MayMake O a.held a.effects
  FitsIn w k number a (Withdraws lock) = ⊤
  FitsIn w k number a GivesBack = ⊤
  FitsIn w k number a (Operates turn) = IsOperating w.words w.order k number turn a

  -- a reading is what its word has, and the word is under a lock held
  pub record IsRead (words : List ℕ) (held : List Lock) (r : Reading ℕ) : Type 0 where
    pub value : slice_index words r.word ≡ r.value
    pub under : IsUnder O held r.word

  -- a lock is the system's, and its word names actor k
  pub record IsHeld (words : List ℕ) (k : ℕ) (lock : Lock) : Type 0 where
    pub there : IsLock lock
    pub names : holder_at words lock ≡ suc k

  -- what holds of actor k's attempt at the job of a number
  pub record IsSound (w : World O) (k number : ℕ) (a : AttemptOf O) : Type 0 where
    pub job : IsJob a.job
    pub held : (lock : Lock) → IsIn lock a.held → IsHeld w.words k lock
    pub distinct : AreDistinct a.held
    pub read : (r : Reading ℕ) → IsIn r (read_in a.phase a.readings) → IsRead w.words a.held r
    pub valid : IsValid O a
    pub fits : FitsIn w k number a a.phase

  -- actor k holds the lock
  pub record Holds (actors : List (ActorOf O)) (k : ℕ) (lock : Lock) : Type 0 where
    pub number : ℕ
    pub attempt : AttemptOf O
    pub does : get_elem? actors k ≡ some (Does number attempt)
    pub held : IsIn lock attempt.held

  -- actor k's request for the lock is pending: it requested the lock, and has neither seized it
  -- nor withdrawn
  pub record HasRequested (actors : List (ActorOf O)) (k : ℕ) (lock : Lock) : Type 0 where
    pub number : ℕ
    pub attempt : AttemptOf O
    pub does : get_elem? actors k ≡ some (Does number attempt)
    pub requests : request_in attempt.phase ≡ Some lock

  -- the word has actor k's request only if that is pending; exactly then, if the sharing shows
  -- requests
  pub record TellsRequest (actors : List (ActorOf O)) (k : ℕ) (lock : Lock)
      (word : ℕ) : Type 0 where
    pub made : sharing.requests k word ≡ true → HasRequested actors k lock
    pub shown : ShowsRequests sharing → HasRequested actors k lock → sharing.requests k word ≡ true

  -- a lock's word is one of the sharing's, a holder that it names holds the lock, and it is right
  -- about each actor's request
  pub record IsShared (w : World O) (lock : Lock) : Type 0 where
    pub is_word : sharing.IsWord (word_at w.words lock)
    pub named : (k : ℕ) → holder_at w.words lock ≡ suc k → Holds w.actors k lock
    pub requested : (k : ℕ) → k < sharing.most → TellsRequest w.actors k lock (word_at w.words lock)

  -- the invariant of worlds, which each world satisfies that the system can reach
  pub record Lawful (w : World O) : Type 0 where
    pub few : length w.actors ≤ sharing.most
    pub size : length w.words ≡ O.size
    -- each word has 64 bits
    pub are_words : AreWords w.words
    pub turn : IsCount O.clock (slice_index w.words O.turn_word) (length w.order)
    -- the order is legal, and the words show the state after it once all effects left are made
    pub legal : IsLegal 0 O.opening w.order
    pub shows : Shows (completed O w) (after O O.opening w.order)
    -- each actor's attempt is sound, and each lock's word is right
    pub sound : (k number : ℕ) (a : AttemptOf O) → get_elem? w.actors k ≡ some (Does number a)
        → IsSound w k number a
    pub shared : (lock : Lock) → IsLock lock → IsShared w lock

  -- an actor to which a job may be assigned: it is idle, or done with its job
  abbrev pub IsAvailable : ActorOf O → Type 0
  IsAvailable Idle = ⊤
  IsAvailable (Does number a) = act a ≡ Finished
