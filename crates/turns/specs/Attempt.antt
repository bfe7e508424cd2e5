use Rattle.std.specs.Prelude.{◌≡◌, ℕ, ◌<◌, ◌^◌, ◌==◌, Option, Some, None, List, [], ◌∷◌, ◌++◌, Result, Ok, Err, true, false, ⊤, if◌then◌else◌}
use Rattle.turns.specs.Seen.{Seen}
use Rattle.turns.specs.Script.{walk}
use Rattle.turns.specs.Sharing.{Sharing, with_request}
use Rattle.turns.specs.System.{System}
use Rattle.turns.specs.declared.act.Act.{Act}
use Rattle.turns.specs.declared.act.Act.TheVariants.{Finished, Request, Seize, Withdraw, Free, Test, Turn, Make}
use Rattle.turns.specs.declared.answer.Answer.{Answer}
use Rattle.turns.specs.declared.answer.Answer.TheVariants.{Asked, Seized, Held, Preferred, Again, Value, Turn as TurnNumber, Done}
use Rattle.turns.specs.declared.judgement.Judgement.{Judgement}
use Rattle.turns.specs.declared.judgement.Judgement.TheVariants as judgement
use Rattle.turns.specs.declared.phase.Phase.{Phase}
use Rattle.turns.specs.declared.phase.Phase.TheVariants.{Requests, Seizes, Tests, Turns, Withdraws, GivesBack, Operates}
use Rattle.turns.specs.declared.reading.Reading.{Reading}
use Rattle.turns.specs.declared.wanted.Wanted.{Wanted}
use Rattle.turns.specs.declared.wanted.Wanted.TheVariants as wanted

-- an attempt at a job: what an actor knows of its job since it last began
pub record Attempt (Lock Job Reply Effect : Type 0) : Type 0 where
  pub job : Job
  pub readings : List (Reading ℕ)
  pub held : List Lock
  pub phase : Phase Lock ℕ
  -- the decision, if there is one: the reply, and the effects that are still to be made
  pub reply : Option Reply
  pub effects : List Effect

-- the next free: locks are freed in the order of seizing
abbrev pub free_act : {Lock Effect : Type 0} → List Lock → Act Lock Effect
free_act [] = Finished
free_act (lock ∷ held) = Free lock

-- the next step past the turn: effects are made in their order, and then locks are freed
abbrev pub closing_act : {Lock Effect : Type 0} → List Effect → List Lock → Act Lock Effect
closing_act [] held = free_act held
closing_act (effect ∷ effects) held = Make effect

abbrev pub act_in : {Lock Job Reply Effect : Type 0} → Phase Lock ℕ → Attempt Lock Job Reply Effect
    → Act Lock Effect
act_in (Requests lock) a = Request lock
act_in (Seizes lock expected) a = Seize lock expected
act_in (Tests word) a = Test word
act_in Turns a = Turn
act_in (Withdraws lock) a = Withdraw lock
act_in GivesBack a = free_act a.held
act_in (Operates turn) a = closing_act a.effects a.held

-- an attempt's next step
abbrev pub act : {Lock Job Reply Effect : Type 0} → Attempt Lock Job Reply Effect → Act Lock Effect
act a = act_in a.phase a

-- the step requests or seizes a lock
abbrev pub IsSeizing : {Lock Effect : Type 0} → Act Lock Effect → Type 0
IsSeizing (Request lock) = ⊤
IsSeizing (Seize lock expected) = ⊤
IsSeizing Finished = ⊥
IsSeizing (Withdraw lock) = ⊥
IsSeizing (Free lock) = ⊥
IsSeizing (Test word) = ⊥
IsSeizing Turn = ⊥
IsSeizing (Make effect) = ⊥

-- what an attempt holds and has read
abbrev pub seen_of : {Lock Job Reply Effect : Type 0} → Attempt Lock Job Reply Effect → Seen Lock
seen_of a = record { held = a.held; readings = a.readings }

-- the locks held once the first one is freed
abbrev pub rest_of : {Lock : Type 0} → List Lock → List Lock
rest_of [] = []
rest_of (lock ∷ held) = held

-- the lock for which its request is pending
abbrev pub request_in : {Lock : Type 0} → Phase Lock ℕ → Option Lock
request_in (Seizes lock expected) = Some lock
request_in (Withdraws lock) = Some lock
request_in (Requests lock) = None
request_in (Tests word) = None
request_in Turns = None
request_in GivesBack = None
request_in (Operates turn) = None

-- the lock that its next step requests or seizes
abbrev pub asked_in : {Lock : Type 0} → Phase Lock ℕ → Option Lock
asked_in (Requests lock) = Some lock
asked_in (Seizes lock expected) = Some lock
asked_in (Tests word) = None
asked_in Turns = None
asked_in (Withdraws lock) = None
asked_in GivesBack = None
asked_in (Operates turn) = None

-- the number of its turn, once it has taken it
abbrev pub turn_in : {Lock : Type 0} → Phase Lock ℕ → Option ℕ
turn_in (Operates turn) = Some turn
turn_in (Requests lock) = None
turn_in (Seizes lock expected) = None
turn_in (Tests word) = None
turn_in Turns = None
turn_in (Withdraws lock) = None
turn_in GivesBack = None

-- the effects that are still to be made: none before the turn
abbrev pub effects_left_in : {Lock Effect : Type 0} → Phase Lock ℕ → List Effect → List Effect
effects_left_in (Operates turn) effects = effects
effects_left_in (Requests lock) effects = []
effects_left_in (Seizes lock expected) effects = []
effects_left_in (Tests word) effects = []
effects_left_in Turns effects = []
effects_left_in (Withdraws lock) effects = []
effects_left_in GivesBack effects = []

-- the readings that still count: none past the turn, or in giving back
abbrev pub read_in : {Lock : Type 0} → Phase Lock ℕ → List (Reading ℕ) → List (Reading ℕ)
read_in (Requests lock) readings = readings
read_in (Seizes lock expected) readings = readings
read_in (Tests word) readings = readings
read_in Turns readings = readings
read_in (Withdraws lock) readings = []
read_in GivesBack readings = []
read_in (Operates turn) readings = []

-- the reply, known from the turn on
abbrev pub reply_in : {Lock Reply : Type 0} → Phase Lock ℕ → Option Reply → Option Reply
reply_in (Operates turn) reply = reply
reply_in (Requests lock) reply = None
reply_in (Seizes lock expected) reply = None
reply_in (Tests word) reply = None
reply_in Turns reply = None
reply_in (Withdraws lock) reply = None
reply_in GivesBack reply = None

-- the beginning of an attempt: nothing held, nothing read, nothing decided
abbrev pub begin_with : {Lock Job Reply Effect : Type 0} → Lock → Job
    → Attempt Lock Job Reply Effect
begin_with first job = record {
  job = job;
  readings = [];
  held = [];
  phase = Requests first;
  reply = None;
  effects = [];
}

-- the attempt without all that it has read and decided
abbrev pub forgotten : {Lock Job Reply Effect : Type 0} → Attempt Lock Job Reply Effect
    → Attempt Lock Job Reply Effect
forgotten a = record a { readings = []; reply = None; effects = [] }

-- the attempt once it is denied a lock that it has requested: it withdraws its request next
abbrev pub denied : {Lock Job Reply Effect : Type 0} → Attempt Lock Job Reply Effect → Lock
    → Attempt Lock Job Reply Effect
denied a lock = record (forgotten a) { phase = Withdraws lock }

-- the attempt after a step past the turn: an effect was made, or, with none left, the first lock
-- was freed
abbrev pub operated : {Lock Job Reply Effect : Type 0} → Attempt Lock Job Reply Effect → List Effect
    → Attempt Lock Job Reply Effect
operated a [] = record a { held = rest_of a.held }
operated a (effect ∷ effects) = record a { effects = effects }

-- this answer if the judgement lets the actor go on, and otherwise that the lock is denied
abbrev pub unless_denied : Answer → Judgement → Answer
unless_denied answer judgement.Free = answer
unless_denied answer (judgement.Held holder) = Held holder
unless_denied answer (judgement.Preferred other) = Preferred other

-- the answer to actor k's request, which found this number in the lock's word
abbrev pub answer_to_request : Sharing → ℕ → ℕ → Answer
answer_to_request S k found =
    if S.asks
    then unless_denied (Asked (with_request S k found)) (S.judged k (with_request S k found))
    else unless_denied Seized (S.judged k found)

-- the answer to its step that seizes a lock: it expected one number in the lock's word, and found
-- the other
abbrev pub answer_to_seize : Sharing → ℕ → ℕ → ℕ → Answer
answer_to_seize S k expected found =
    if found == expected then Seized else unless_denied (Again found) (S.judged k found)

-- the answer is of the step's kind, and the value of a tested word fits 64 bits
abbrev pub IsAnswerTo : {Lock Effect : Type 0} → Act Lock Effect → Answer → Type 0
IsAnswerTo (Request lock) (Asked word) = ⊤
IsAnswerTo (Request lock) (Held holder) = ⊤
IsAnswerTo (Request lock) (Preferred other) = ⊤
IsAnswerTo (Seize lock expected) Seized = ⊤
IsAnswerTo (Seize lock expected) (Held holder) = ⊤
IsAnswerTo (Seize lock expected) (Preferred other) = ⊤
IsAnswerTo (Seize lock expected) (Again word) = ⊤
IsAnswerTo (Test word) (Value value) = value < 2 ^ 64
IsAnswerTo Turn (TurnNumber number) = ⊤
IsAnswerTo (Withdraw lock) Done = ⊤
IsAnswerTo (Make effect) Done = ⊤
IsAnswerTo (Free lock) Done = ⊤
IsAnswerTo _ _ = ⊥

module _ (O : System) where
  open O use {Lock, Job, Reply, Effect, Decision, IsLock, reply_of, effects_of, sharing}

  abbrev pub AttemptOf : Type 0
  AttemptOf = Attempt Lock Job Reply Effect

  abbrev pub begin : Job → AttemptOf
  begin job = begin_with (O.first job) job

  -- what the walk of its script comes to, on what it holds and has read
  abbrev pub walk_result : AttemptOf → Result Decision (Wanted Lock ℕ)
  walk_result a = walk O.same (seen_of a) (O.script a.job)

  -- the attempt continued with the result of its walk: it has decided, or needs something next
  abbrev pub goes_on : AttemptOf → Result Decision (Wanted Lock ℕ) → AttemptOf
  goes_on a (Ok decision) =
      record a { phase = Turns; reply = Some (reply_of decision); effects = effects_of decision }
  goes_on a (Err (wanted.Seize lock)) = record a { phase = Requests lock }
  goes_on a (Err (wanted.Test word)) = record a { phase = Tests word }

  abbrev pub walks_on : AttemptOf → AttemptOf
  walks_on a = goes_on a (walk_result a)

  -- the attempt in giving back, with these locks still held: with none left its job begins anew
  abbrev pub giving_back : AttemptOf → List Lock → AttemptOf
  giving_back a [] = begin a.job
  giving_back a (lock ∷ held) = record a { held = lock ∷ held; phase = GivesBack }

  -- the attempt once its request is denied: it withdraws that next, if actors ask first, and
  -- otherwise gives back
  abbrev pub denied_request : AttemptOf → Lock → AttemptOf
  denied_request a lock =
      if sharing.asks then denied a lock else giving_back (forgotten a) a.held

  -- the attempt changed by an answer in a phase; an answer of another kind changes nothing
  abbrev pub changed : AttemptOf → Phase Lock ℕ → Answer → AttemptOf
  changed a (Requests lock) (Asked word) = record a { phase = Seizes lock word }
  changed a (Requests lock) Seized = walks_on (record a { held = a.held ++ lock ∷ [] })
  changed a (Requests lock) (Held holder) = denied_request a lock
  changed a (Requests lock) (Preferred other) = denied_request a lock
  changed a (Seizes lock expected) Seized = walks_on (record a { held = a.held ++ lock ∷ [] })
  changed a (Seizes lock expected) (Held holder) = denied a lock
  changed a (Seizes lock expected) (Preferred other) = denied a lock
  changed a (Seizes lock expected) (Again word) = record a { phase = Seizes lock word }
  changed a (Tests word) (Value value) =
      walks_on (record a { readings = a.readings ++ record { word = word; value = value } ∷ [] })
  changed a Turns (TurnNumber number) = record a { phase = Operates number }
  changed a (Withdraws lock) Done = giving_back a a.held
  changed a GivesBack Done = giving_back a (rest_of a.held)
  changed a (Operates turn) Done = operated a a.effects
  changed a _ _ = a

  -- the attempt after the answer to its next step
  abbrev pub change : AttemptOf → Answer → AttemptOf
  change a answer = changed a a.phase answer

  -- the answer to actor k's step, which found this number in its word
  abbrev pub answer_to : ℕ → Act Lock Effect → ℕ → Answer
  answer_to k Finished found = Done
  answer_to k (Request lock) found = answer_to_request sharing k found
  answer_to k (Seize lock expected) found = answer_to_seize sharing k expected found
  answer_to k (Withdraw lock) found = Done
  answer_to k (Free lock) found = Done
  answer_to k (Test word) found = Value found
  answer_to k Turn found = TurnNumber found
  answer_to k (Make effect) found = Done

  -- the answer is of the step's kind; a request is answered that the lock is seized only if it
  -- seizes at once, and that the request is made only if actors ask first
  abbrev pub IsAnswer : Act Lock Effect → Answer → Type 0
  IsAnswer (Request lock) (Asked word) = sharing.asks ≡ true
  IsAnswer (Request lock) Seized = sharing.asks ≡ false
  IsAnswer step answer = IsAnswerTo step answer

  -- the attempt of actor k after its next step, which found this number
  abbrev pub next : ℕ → AttemptOf → ℕ → AttemptOf
  next k a found = change a (answer_to k (act a) found)

  -- the attempt once it is given up: it gives back and begins anew; past its turn nothing changes
  abbrev pub restarted_in : Phase Lock ℕ → AttemptOf → AttemptOf
  restarted_in (Requests lock) a = giving_back (forgotten a) a.held
  restarted_in (Seizes lock expected) a = denied a lock
  restarted_in (Tests word) a = giving_back (forgotten a) a.held
  restarted_in Turns a = giving_back (forgotten a) a.held
  restarted_in (Withdraws lock) a = a
  restarted_in GivesBack a = a
  restarted_in (Operates turn) a = a

  abbrev pub restarted : AttemptOf → AttemptOf
  restarted a = restarted_in a.phase a

  -- its walk comes to a decision, of which it has the reply and the effects
  pub record HasDecided (a : AttemptOf) : Type 0 where
    pub decision : Decision
    pub come : walk_result a ≡ Ok decision
    pub reply : a.reply ≡ Some (reply_of decision)
    pub effects : a.effects ≡ effects_of decision

  -- it took its turn with a decision that a walk of its script came to; the effects left are the
  -- last of that decision's
  pub record HasTurned (a : AttemptOf) : Type 0 where
    pub seen : Seen Lock
    pub decision : Decision
    pub come : walk O.same seen (O.script a.job) ≡ Ok decision
    pub made : List Effect
    pub reply : a.reply ≡ Some (reply_of decision)
    pub effects : effects_of decision ≡ made ++ a.effects

  -- an attempt is valid in a phase: before the turn, the phase is what its walk comes to
  abbrev pub IsValidIn : AttemptOf → Phase Lock ℕ → Type 0
  IsValidIn a (Requests lock) = walk_result a ≡ Err (wanted.Seize lock)
  IsValidIn a (Seizes lock expected) = walk_result a ≡ Err (wanted.Seize lock)
  IsValidIn a (Tests word) = walk_result a ≡ Err (wanted.Test word)
  IsValidIn a Turns = HasDecided a
  IsValidIn a (Withdraws lock) = IsLock lock
  IsValidIn a GivesBack = ¬ (a.held ≡ [])
  IsValidIn a (Operates turn) = HasTurned a

  abbrev pub IsValid : AttemptOf → Type 0
  IsValid a = IsValidIn a a.phase
