-- chains of a desk's steps, whose number is bounded
use Rattle.std.specs.Prelude.{◌≡◌, ℕ, zero, suc, List}
use Rattle.turns.specs.System.{System}
use Rattle.turns.specs.World.{ActorOf, RecordOf}
use Rattle.turns.specs.Bounds.{IsSteady}
use Rattle.turns.specs.declared.answer.Answer.{Answer}
use Rattle.desks.specs.Desks.{HasStepped}

module _ (O : System) where
  -- actor k made this number of steps, one after another, none of which was denied a lock or had
  -- to retry a seize. In between its desk may have learned notes and met others, which changes
  -- only what it has seen.
  abbrev pub MadeSteadily : ℕ → ℕ → ActorOf O → ActorOf O → Type 0
  MadeSteadily k zero before after = after ≡ before
  MadeSteadily k (suc count) before after =
      (between : ActorOf O) × (seen seen_after : List (RecordOf O)) × (answer : Answer)
      × HasStepped O k before between seen seen_after answer × IsSteady answer
      × MadeSteadily k count between after
