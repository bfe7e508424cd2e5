use Rattle.std.specs.Prelude.{ℕ, zero, suc, ◌==◌, ◌||◌, ◌&&◌, not, Bool, false, Option, Some, None, List, [], ◌∷◌, option_to_list, if◌then◌else◌}
use Rattle.turns.specs.System.{Whole}
use Rattle.slots.specs.declared.bank.TheConstants.{BANK_SIZE, SLOT_COUNT}
use Rattle.slots.specs.declared.job.Job.{Job}
use Rattle.slots.specs.declared.job.Job.TheVariants.{Take, TakeBoth, Give}

-- a set of slots: those that are taken
abbrev pub Busy : Type 0
Busy = ℕ → Bool

-- no slot is taken
abbrev pub none_busy : Busy
none_busy slot = false

-- the set with this slot added
abbrev pub with_slot : Busy → ℕ → Busy
with_slot busy slot = λ s. s == slot || busy s

-- the set with this slot removed
abbrev pub without_slot : Busy → ℕ → Busy
without_slot busy slot = λ s. not (s == slot) && busy s

-- the set with these slots added
abbrev pub with_slots : Busy → List ℕ → Busy
with_slots busy [] = busy
with_slots busy (slot ∷ slots) = with_slots (with_slot busy slot) slots

-- the lowest free slot among the `count` slots from this one on
unfoldable pub lowest_free : Busy → ℕ → ℕ → Option ℕ
lowest_free busy slot zero = None
lowest_free busy slot (suc count) =
    if busy slot then lowest_free busy (suc slot) count else Some slot

-- one slot of each bank, or none
abbrev pub both_of : Option ℕ → Option ℕ → List ℕ
both_of (Some lower) (Some upper) = lower ∷ upper ∷ []
both_of (Some lower) None = []
both_of None upper = []

-- taking these slots: they are added to the set, and are the reply
abbrev pub took : Busy → List ℕ → Whole Busy (List ℕ)
took busy slots = record { state = with_slots busy slots; reply = slots }

-- what a job does, done whole: slots 0 to 31 are the lower bank, slots 32 to 63 the upper one
abbrev pub whole : Busy → Job → Whole Busy (List ℕ)
whole busy Take = took busy (option_to_list (lowest_free busy 0 SLOT_COUNT))
whole busy TakeBoth =
    took busy
    (both_of (lowest_free busy 0 BANK_SIZE) (lowest_free busy BANK_SIZE BANK_SIZE))
whole busy (Give slot) = record { state = without_slot busy slot; reply = [] }
