use Rattle.std.specs.Prelude.{◌≡◌, ℕ, None, zero, suc, ◌<◌, ◌≤◌, ◌^◌, List, [], ◌∷◌, length, ⊤}
use Rattle.turns.specs.Script.{Script, Ends, TestThen, SeizeThen, AsksAtMost}
use Rattle.turns.specs.System.{System}
use Rattle.turns.specs.Attempt.{AttemptOf, IsAnswer, act, change, request_in}
use Rattle.turns.specs.World.{World, ActorOf, Idle, Does}
use Rattle.turns.specs.Runs.{after_move, Steps}
use Rattle.turns.specs.declared.answer.Answer.{Answer}
use Rattle.turns.specs.declared.answer.Answer.TheVariants.{Asked, Seized, Held, Preferred, Again, Value, Turn, Done}

-- what a script ends with has a property, whatever values of 64 bits it reads
unfoldable pub AllEndsHave : {Lock A : Type 0} → (A → Type 0) → Script Lock A → Type 0
AllEndsHave Has (Ends found) = Has found
AllEndsHave Has (TestThen word script) = (value : ℕ) → value < 2 ^ 64 → AllEndsHave Has
    (script value)
AllEndsHave Has (SeizeThen lock script) = AllEndsHave Has script

-- an answer by which an attempt is neither denied a lock nor has to retry a seize
abbrev pub IsSteady : Answer → Type 0
IsSteady (Asked word) = ⊤
IsSteady Seized = ⊤
IsSteady (Held holder) = ⊥
IsSteady (Preferred other) = ⊥
IsSteady (Again word) = ⊥
IsSteady (Value value) = ⊤
IsSteady (Turn number) = ⊤
IsSteady Done = ⊤

module _ (O : System) where
  -- the answers are steady, and each is of the kind of the step that is next then
  abbrev pub AreSteady : AttemptOf O → List Answer → Type 0
  AreSteady a [] = ⊤
  AreSteady a (answer ∷ answers) =
      IsAnswer O (act a) answer × IsSteady answer × AreSteady (change O a answer) answers

  -- each job tests at most `tests` words, seizes at most `seizings` locks, and decides on at most
  -- `most_effects` effects
  pub record AreBounded (tests seizings most_effects : ℕ) : Type 0 where
    pub asks : (job : O.Job) → O.IsJob job → AsksAtMost tests seizings (O.script job)
    pub effects : (job : O.Job) → O.IsJob job
        → AllEndsHave (λ decision. length (O.effects_of decision) ≤ most_effects) (O.script job)

  -- the world after `count` steps of actor k
  abbrev pub after_steps : ℕ → ℕ → World O → World O
  after_steps k zero w = w
  after_steps k (suc count) w = after_steps k count (after_move O w (Steps k))

  -- an actor that is out of the way of the others: it is idle, or holds nothing and has no pending
  -- request
  abbrev pub IsAside : ActorOf O → Type 0
  IsAside Idle = ⊤
  IsAside (Does number a) = (a.held ≡ []) × (request_in a.phase ≡ None)
