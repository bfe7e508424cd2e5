-- walks that make steps of their own, on words that nobody else changes meanwhile
use Rattle.std.specs.Prelude.{◌≡◌, ℕ, zero, suc, ◌+◌, ◌-◌, Bool, true, false, Option, Some, None, List, [], ◌∷◌, ◌++◌, Result, Ok, Err, length, slice_get, slice_index, slice_set, ⊤}
use Rattle.turns.specs.Attempt.{AttemptOf, IsAnswerTo, act, answer_to, goes_on, next}
use Rattle.turns.specs.declared.act.Act.{Act}
use Rattle.turns.specs.declared.act.Act.TheVariants as act_is
use Rattle.turns.specs.Script.{Script, Ends, TestThen, SeizeThen, is_held, value_read}
use Rattle.turns.specs.Seen.{Seen}
use Rattle.turns.specs.System.{System}
use Rattle.turns.specs.World.{becomes, place}
use Rattle.turns.specs.declared.answer.Answer.{Answer}
use Rattle.turns.specs.declared.phase.Phase.{Phase}
use Rattle.turns.specs.declared.phase.Phase.TheVariants.{Requests, Tests}
use Rattle.turns.specs.declared.wanted.Wanted.{Wanted}
use Rattle.turns.specs.declared.wanted.Wanted.TheVariants.{Seize, Test}

-- the state of a walk: what was seen, how many steps it may still make by itself, and what it
-- writes into the word of a lock that it seizes
pub record WalkState (Lock : Type 0) : Type 0 where
  pub seen : Seen Lock
  pub left : ℕ
  pub held_word : ℕ

-- what a walk comes to: its result or what it needs next, its state, and the words
pub record WalkOutcome (Lock A : Type 0) : Type 0 where
  pub found : Result A (Wanted Lock ℕ)
  pub state : WalkState Lock
  pub words : List ℕ

-- the walk has read a word by itself, by one step
abbrev pub with_reading : {Lock : Type 0} → WalkState Lock → ℕ → ℕ → WalkState Lock
with_reading state word value = record {
  seen = record {
    held = state.seen.held;
    readings = state.seen.readings ++ record { word = word; value = value } ∷ [];
  };
  left = state.left - 1;
  held_word = state.held_word;
}

-- the walk has seized a lock by itself, by two steps
abbrev pub with_lock : {Lock : Type 0} → WalkState Lock → Lock → WalkState Lock
with_lock state lock = record {
  seen = record { held = state.seen.held ++ lock ∷ []; readings = state.seen.readings };
  left = state.left - 2;
  held_word = state.held_word;
}

-- the value that a walk reads by itself: a step is left, there is room for the reading, and the
-- word is there
abbrev pub read_at_once : ℕ → ℕ → List ℕ → ℕ → Option ℕ
read_at_once zero room words word = None
read_at_once (suc left) zero words word = None
read_at_once (suc left) (suc room) words word = slice_get words word

-- whether a lock's word is there and is 0: nobody holds or requests the lock
abbrev pub is_unlocked : Option ℕ → Bool
is_unlocked None = false
is_unlocked (Some zero) = true
is_unlocked (Some (suc word)) = false

-- whether a walk may seize a lock by itself: two steps are left, there is room for the lock, and
-- nobody holds or requests it
abbrev pub may_seize : ℕ → ℕ → Option ℕ → Bool
may_seize zero room word = false
may_seize (suc zero) room word = false
may_seize (suc (suc left)) zero word = false
may_seize (suc (suc left)) (suc room) word = is_unlocked word

-- the attempt requests a lock or tests a word next
abbrev pub WantsNext : {Lock : Type 0} → Phase Lock ℕ → Type 0
WantsNext (Requests lock) = ⊤
WantsNext (Tests word) = ⊤
WantsNext phase = ⊥

module _ {Lock : Type 0} (same : Lock → Lock → Bool) (lock_word : Lock → ℕ) (reads seizes : ℕ)
    (change : ℕ → ℕ → ℕ) where
  -- the walk from a test on: by the value that was read, or the one that it reads now; it stops if
  -- there is neither
  unfoldable pub walk_on_words_test : {A : Type 0}
      → (ℕ → WalkState Lock → List ℕ → WalkOutcome Lock A) → ℕ
      → WalkState Lock → List ℕ → Option ℕ → Option ℕ → WalkOutcome Lock A
  walk_on_words_test next word state words (Some value) now = next (change word value) state words
  walk_on_words_test next word state words None (Some value) =
      next (change word value) (with_reading state word value) words
  walk_on_words_test next word state words None None = record {
    found = Err (Test word);
    state = state;
    words = words;
  }

  -- the walk from a seize on: if the lock is held, or is seized now; otherwise it stops
  unfoldable pub walk_on_words_seize : {A : Type 0}
      → (WalkState Lock → List ℕ → WalkOutcome Lock A) → Lock
      → WalkState Lock → List ℕ → Bool → Bool → WalkOutcome Lock A
  walk_on_words_seize next lock state words true now = next state words
  walk_on_words_seize next lock state words false true =
      next (with_lock state lock) (slice_set words (lock_word lock) state.held_word)
  walk_on_words_seize next lock state words false false = record {
    found = Err (Seize lock);
    state = state;
    words = words;
  }

  -- the walk through a script, which takes each value through `change` and makes steps of its own
  -- as long as it may: to the script's end, or to what it needs next
  unfoldable pub walk_on_words : {A : Type 0} → Script Lock A → WalkState Lock → List ℕ
      → WalkOutcome Lock A
  walk_on_words (Ends found) state words =
      record { found = Ok found; state = state; words = words }
  walk_on_words (TestThen word script) state words =
      walk_on_words_test (λ value. walk_on_words (script value)) word state words
      (value_read state.seen.readings word)
      (read_at_once state.left (reads - length state.seen.readings) words word)
  walk_on_words (SeizeThen lock script) state words =
      walk_on_words_seize (walk_on_words script) lock state words
      (is_held same state.seen.held lock)
      (may_seize state.left (seizes - length state.seen.held) (slice_get words (lock_word lock)))

module _ (O : System) where
  open O use {Lock, Decision}

  -- an actor's attempt with the words that it runs on
  pub record Moment : Type 0 where
    pub attempt : AttemptOf O
    pub words : List ℕ

  -- the moment after the next step of actor k, if nobody else makes one
  abbrev pub stepped : ℕ → Moment → Moment
  stepped k m = let at : ℕ = place O (act m.attempt) in record {
    attempt = next O k m.attempt (slice_index m.words at);
    words = slice_set m.words at (becomes O k (act m.attempt) (slice_index m.words at));
  }

  -- there is a next step, and it is not a turn
  abbrev pub IsNoTurn : Act Lock O.Effect → Type 0
  IsNoTurn (act_is.Request lock) = ⊤
  IsNoTurn (act_is.Seize lock expected) = ⊤
  IsNoTurn (act_is.Withdraw lock) = ⊤
  IsNoTurn (act_is.Free lock) = ⊤
  IsNoTurn (act_is.Test word) = ⊤
  IsNoTurn (act_is.Make effect) = ⊤
  IsNoTurn act_is.Finished = ⊥
  IsNoTurn act_is.Turn = ⊥

  -- the answer to actor k's next step
  abbrev pub answer_at : ℕ → Moment → Answer
  answer_at k m = answer_to O k (act m.attempt) (slice_index m.words (place O (act m.attempt)))

  -- this many steps of actor k lead from the one moment to the last; none of them is a turn, and
  -- each answer is of its step's kind
  unfoldable pub LeadsTo : ℕ → ℕ → Moment → Moment → Type 0
  LeadsTo k zero m last = m ≡ last
  LeadsTo k (suc count) m last =
      IsNoTurn (act m.attempt)
      × (IsAnswerTo (act m.attempt) (answer_at k m) × LeadsTo k count (stepped k m) last)

  -- the attempt with what its walk has seen, continued by what the walk came to
  abbrev pub continued_by : AttemptOf O → WalkState Lock → Result Decision (Wanted Lock ℕ)
      → AttemptOf O
  continued_by a state found =
      goes_on O (record a { held = state.seen.held; readings = state.seen.readings }) found

  -- the steps that a walk made by itself are as many steps of actor k, from where the attempt
  -- needed something to where the walk ended
  pub record IsMade (k : ℕ) (a : AttemptOf O) (state : WalkState Lock) (words : List ℕ)
      (found : Result Decision (Wanted Lock ℕ)) (comes : WalkOutcome Lock Decision) : Type 0 where
    pub made : ℕ
    pub left : state.left ≡ made + comes.state.left
    pub steps : LeadsTo k made (record { attempt = continued_by a state found; words = words })
        (record { attempt = continued_by a comes.state comes.found; words = comes.words })
