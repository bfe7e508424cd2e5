-- who holds a lock, as a desk finds it by one load of the lock's own word
use Rattle.std.specs.Prelude.{◌≡◌, ◌↔◌, ℕ, List, length, Option, Some, slice_index}
use mathlib.Core.Option.{some}
use lib.ListN.{get_elem?}
use Rattle.turns.specs.Among.{IsIn}
use Rattle.turns.specs.System.{System}
use Rattle.turns.specs.World.{World, ActorOf, RecordOf}
use Rattle.turns.specs.Law.{Holds, Lawful}
use Rattle.desks.specs.Parts.{Begins, own}
use Rattle.desks.specs.Kept.{Fits, KnownOf, PartOf}

module _ (O : System) where
  -- a load of the word at this place found `found` in a lawful world of `count` actors, in which
  -- all that the view knows of its actors is true; the view stayed as it was
  pub record HasLoaded (count place : ℕ) (before : KnownOf O) (found : ℕ) (after : KnownOf O)
      : Type 0 where
    pub world : World O
    pub lawful : Lawful O world
    pub all : length world.actors ≡ count
    pub fits : (p : PartOf O) → IsIn p before.parts → Fits O world p
    pub found_is : found ≡ slice_index world.words place
    pub after_is : after ≡ before

  -- in a lawful world of a room of `count` actors exactly this actor held the lock, or nobody if
  -- there is none. Actor `number` was as its desk has it. The world's order begins with what the
  -- desk had seen, and has no further records of the desk's own.
  pub record WasHeldBy (count number : ℕ) (actor : ActorOf O) (seen : List (RecordOf O))
      (lock : O.Lock) (holder : Option ℕ) : Type 0 where
    pub world : World O
    pub lawful : Lawful O world
    pub all : length world.actors ≡ count
    pub actor_is : get_elem? world.actors number ≡ some actor
    pub begins : Begins seen world.order
    pub own_is : own number world.order ≡ own number seen
    pub held : (k : ℕ) → (holder ≡ Some k) ↔ Holds O world.actors k lock
