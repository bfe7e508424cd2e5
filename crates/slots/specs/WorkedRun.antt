use Rattle.std.specs.Prelude.{ℕ, List, [], ◌∷◌, map}
use Rattle.turns.specs.Runs.{Move, Assigns, Steps, run_of}
use Rattle.turns.specs.World.{World, RecordOf}
use Rattle.slots.specs.System.{slots}
use Rattle.slots.specs.declared.job.Job.{Job}
use Rattle.slots.specs.declared.job.Job.TheVariants.{Take, TakeBoth}

-- actor 0 takes a slot while actor 1 is to take one of each bank. Actor 1 is denied the lower bank
-- four times, since actor 0 holds it, and begins anew each time.
abbrev pub two_at_once : List (Move Job)
two_at_once =
    Assigns 0 1 Take ∷ Assigns 1 2 TakeBoth ∷
    -- actor 0 seizes the lower bank, which actor 1 then finds held
    Steps 0 ∷ Steps 1 ∷
    -- actor 0 tests, takes its turn and marks slot 0; after each of these actor 1 tries again
    Steps 0 ∷ Steps 1 ∷ Steps 0 ∷ Steps 1 ∷ Steps 0 ∷ Steps 1 ∷
    -- actor 0 frees the bank
    Steps 0 ∷
    -- actor 1 seizes and tests each bank, takes its turn, marks a slot of each bank and frees both
    Steps 1 ∷ Steps 1 ∷ Steps 1 ∷ Steps 1 ∷ Steps 1 ∷ Steps 1 ∷ Steps 1 ∷ Steps 1 ∷ Steps 1 ∷ []

-- the world after this run
abbrev pub worked : World slots
worked = run_of slots 2 two_at_once

-- the replies of records, in their order
abbrev pub replies : List (RecordOf slots) → List (List ℕ)
replies order = map (λ (r : RecordOf slots). r.reply) order
