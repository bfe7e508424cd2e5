-- what the logs of shifts are, once their room is shut
use Rattle.std.specs.Prelude.{◌≡◌, ◌<◌, ◌≤◌, ◌^◌, ◌==◌, ◌++◌, ℕ, List, [], ◌∷◌, length, IfSome, Some, slice_get, if◌then◌else◌, ⊤}
use Rattle.turns.specs.Among.{IsIn}
use Rattle.turns.specs.World.{RecordOf}
use Rattle.desks.specs.Met.{IsEnded}
use Rattle.desks.specs.Reports.{MakeUp}
use Rattle.slots.specs.System.{slots}
use Rattle.slots.specs.Taken.{Took}
use Rattle.slots.specs.declared.job.Job.{Job}
use Rattle.slots.specs.declared.job.Job.TheVariants.{Take, TakeBoth, Give}

-- one of the logs has this record
abbrev pub IsLogged : List (List (RecordOf slots)) → RecordOf slots → Type 0
IsLogged logs r =
    (i : ℕ) × (log : List (RecordOf slots)) × (slice_get logs i ≡ Some log) × IsIn r log

-- the slots of a list, without the first that is this slot
abbrev pub without : ℕ → List ℕ → List ℕ
without slot [] = []
without slot (s ∷ had) = if s == slot then had else s ∷ without slot had

-- the slots that a desk has after a job, if it had these before: the job has taken more, or freed
-- one
abbrev pub has_after : List ℕ → Job → List ℕ → List ℕ
has_after had Take taken = taken ++ had
has_after had TakeBoth taken = taken ++ had
has_after had (Give slot) taken = without slot had

-- a job frees only a slot that its desk has
abbrev pub GivesIts : List ℕ → Job → Type 0
GivesIts had Take = ⊤
GivesIts had TakeBoth = ⊤
GivesIts had (Give slot) = IsIn slot had

-- a desk that had these slots, and then did the jobs of these records in order, freed only slots
-- that it had
abbrev pub GivesOwn : List ℕ → List (RecordOf slots) → Type 0
GivesOwn had [] = ⊤
GivesOwn had (r ∷ log) = GivesIts had r.job × GivesOwn (has_after had r.job r.reply) log

-- each of the desks whose logs these are freed only slots that it had
abbrev pub AllGiveOwn : List (List (RecordOf slots)) → Type 0
AllGiveOwn logs = (i : ℕ) → IfSome (slice_get logs i) (λ log. GivesOwn [] log)

-- between any two logged jobs that took the same slot, a logged job freed it
abbrev pub NoneTakenTwice : List (List (RecordOf slots)) → Type 0
NoneTakenTwice logs =
    (r other : RecordOf slots) (slot : ℕ) → IsLogged logs r → IsLogged logs other → Took slot r
    → Took slot other → r.turn < other.turn
    → (back : RecordOf slots) × IsLogged logs back × (back.job ≡ Give slot) × (r.turn < back.turn)
    × (back.turn < other.turn)

-- no two desks have a slot at the same time: between any two logged jobs that took it, the desk of
-- the first freed it
abbrev pub NoneHadTwice : List (List (RecordOf slots)) → Type 0
NoneHadTwice logs =
    (r other : RecordOf slots) (slot : ℕ) → IsLogged logs r → IsLogged logs other → Took slot r
    → Took slot other → r.turn < other.turn
    → (back : RecordOf slots) × IsLogged logs back × (back.job ≡ Give slot)
    × (back.actor ≡ r.actor) × (r.turn < back.turn) × (back.turn < other.turn)

-- the words show the slots after an order of jobs, each done whole, and the logs make up this
-- order. As long as a word can count the turns, no slot was taken twice unless it was freed in
-- between; and if each desk freed only slots that it had, no two had a slot at the same time.
pub record HaveEnded (logs : List (List (RecordOf slots))) (words : List ℕ) : Type 0 where
  pub order : List (RecordOf slots)
  pub ended : IsEnded slots (length logs) words order
  pub made_up : MakeUp slots logs order
  pub taken_once : length order ≤ 2 ^ 64 → NoneTakenTwice logs
  pub had_once : length order ≤ 2 ^ 64 → AllGiveOwn logs → NoneHadTwice logs
