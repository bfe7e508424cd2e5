use Rattle.std.specs.Prelude.{ℕ, suc, Option, Some, None, List, [], ◌∷◌, ◌++◌, set, replicate, slice_index, slice_set}
use Rattle.turns.specs.Operations.{applied}
use Rattle.turns.specs.Clock.{turning}
use Rattle.turns.specs.System.{fold_effects, System, effect_on}
use Rattle.turns.specs.Attempt.{Attempt, AttemptOf, act, next, effects_left_in, begin, restarted}
use Rattle.turns.specs.declared.act.Act.{Act}
use Rattle.turns.specs.declared.act.Act.TheVariants.{Finished, Request, Seize, Withdraw, Free, Test, Turn, Make}
use Rattle.turns.specs.declared.operation.Operation.{Operation}
use Rattle.turns.specs.declared.operation.Operation.TheVariants.{Load, CompareExchange}
use Rattle.turns.specs.declared.phase.Phase.{Phase}
use Rattle.turns.specs.declared.phase.Phase.TheVariants.{Requests, Seizes, Tests, Turns, Withdraws, GivesBack, Operates}

-- an actor is idle, or does a job that was assigned to it under a number
pub data Actor (Lock Job Reply Effect : Type 0) : Type 0 where
  Idle : Actor Lock Job Reply Effect
  Does : ℕ → Attempt Lock Job Reply Effect → Actor Lock Job Reply Effect

-- the record of a turn: the turn's number, the actor, the job's number, the job and the reply
pub record Record (Job Reply : Type 0) : Type 0 where
  pub turn : ℕ
  pub actor : ℕ
  pub number : ℕ
  pub job : Job
  pub reply : Reply

module _ (O : System) where
  open O use {Lock, Job, Reply, State, Effect, lock_word, turn_word, sharing, effect_word}

  abbrev pub ActorOf : Type 0
  ActorOf = Actor Lock Job Reply Effect

  abbrev pub RecordOf : Type 0
  RecordOf = Record Job Reply

  pub record World : Type 0 where
    pub words : List ℕ
    pub actors : List ActorOf
    -- the records of the turns taken, in their order
    pub order : List RecordOf

  -- the number of the word that a step is made on
  abbrev pub place : Act Lock Effect → ℕ
  place Finished = turn_word
  place (Request lock) = lock_word lock
  place (Seize lock expected) = lock_word lock
  place (Withdraw lock) = lock_word lock
  place (Free lock) = lock_word lock
  place (Test word) = word
  place Turn = turn_word
  place (Make effect) = effect_word effect

  -- the one atomic operation by which actor k makes the step there; with no next step it changes
  -- nothing
  abbrev pub operation : ℕ → Act Lock Effect → Operation
  operation k Finished = Load
  operation k (Request lock) = sharing.request k
  operation k (Seize lock expected) = CompareExchange expected (sharing.taken k expected)
  operation k (Withdraw lock) = sharing.withdrawal k
  operation k (Free lock) = sharing.freeing
  operation k (Test word) = Load
  operation k Turn = turning O.clock
  operation k (Make effect) = O.operation_of effect

  -- what actor k's step leaves in a word in which it finds this number
  abbrev pub becomes : ℕ → Act Lock Effect → ℕ → ℕ
  becomes k act found = applied (operation k act) found

  -- the record of a turn, if there is a reply
  abbrev pub turn_record : ℕ → ℕ → Job → Option Reply → ℕ → List RecordOf
  turn_record k number job None found = []
  turn_record k number job (Some reply) found =
      record { turn = found; actor = k; number = number; job = job; reply = reply } ∷ []

  abbrev pub added_in : ℕ → ℕ → AttemptOf O → Phase Lock ℕ → ℕ → List RecordOf
  added_in k number a Turns found = turn_record k number a.job a.reply found
  added_in k number a (Requests lock) found = []
  added_in k number a (Seizes lock expected) found = []
  added_in k number a (Tests word) found = []
  added_in k number a (Withdraws lock) found = []
  added_in k number a GivesBack found = []
  added_in k number a (Operates turn) found = []

  -- the world after actor k's step on this word, in which it found this number
  abbrev pub moved_by : ℕ → ℕ → AttemptOf O → World → ℕ → ℕ → World
  moved_by k number a w word found = record {
    words = slice_set w.words word (becomes k (act a) found);
    actors = set w.actors k (Does number (next O k a found));
    order = w.order ++ added_in k number a a.phase found;
  }

  -- the world after the next step of actor k, which does the job of this number
  abbrev pub moved : ℕ → ℕ → AttemptOf O → World → World
  moved k number a w = moved_by k number a w (place (act a)) (slice_index w.words (place (act a)))

  -- the record that its next step adds to the order, if it is a turn
  abbrev pub added : ℕ → ℕ → AttemptOf O → World → List RecordOf
  added k number a w = added_in k number a a.phase (slice_index w.words (place (act a)))

  abbrev pub with_actor : ℕ → ActorOf → World → World
  with_actor k m w = record w { actors = set w.actors k m }

  -- the world once a job is assigned to actor k under a number
  abbrev pub assigned : ℕ → ℕ → Job → World → World
  assigned k number job w = with_actor k (Does number (begin O job)) w

  -- the world once actor k gives back
  abbrev pub job_restarted : ℕ → ℕ → AttemptOf O → World → World
  job_restarted k number a w = with_actor k (Does number (restarted O a)) w

  -- the opening world of `count` actors: all are idle, on the initial words
  abbrev pub fresh_world : ℕ → World
  fresh_world count = record { words = O.initial; actors = replicate count Idle; order = [] }

  -- the effects that an actor has left to make
  abbrev pub effects_left_of : ActorOf → List Effect
  effects_left_of Idle = []
  effects_left_of (Does number a) = effects_left_in a.phase a.effects

  -- what effects, one after another, make of the number in a word
  abbrev pub value_after : List Effect → ℕ → ℕ → ℕ
  value_after = fold_effects effect_word (effect_on O)

  abbrev pub completed_word : List ActorOf → ℕ → ℕ → ℕ
  completed_word [] word value = value
  completed_word (m ∷ actors) word value =
      completed_word actors word (value_after (effects_left_of m) word value)

  abbrev pub completed_from : List ActorOf → ℕ → List ℕ → List ℕ
  completed_from actors word [] = []
  completed_from actors word (value ∷ words) =
      completed_word actors word value ∷ completed_from actors (suc word) words

  -- the words once all effects that actors have left are made
  abbrev pub completed : World → List ℕ
  completed w = completed_from w.actors 0 w.words

  -- the state after the jobs of these records, each done whole
  abbrev pub after : State → List RecordOf → State
  after state [] = state
  after state (r ∷ order) = after (O.whole state r.job).state order
