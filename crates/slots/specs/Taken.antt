use Rattle.std.specs.Prelude.{◌≡◌, ◌⊎◌, ℕ, List, [], ◌∷◌}
use Rattle.turns.specs.Among.{IsIn}
use Rattle.turns.specs.World.{RecordOf}
use Rattle.slots.specs.System.{slots}
use Rattle.slots.specs.declared.job.Job.TheVariants.{Give}

-- the job of a record took the slot
abbrev pub Took : ℕ → RecordOf slots → Type 0
Took slot r = IsIn slot r.reply

-- one of these records is of a job that freed the slot
abbrev pub IsGivenBack : ℕ → List (RecordOf slots) → Type 0
IsGivenBack slot [] = ⊥
IsGivenBack slot (r ∷ order) = (r.job ≡ Give slot) ⊎ IsGivenBack slot order
