use Rattle.std.specs.Prelude.{◌≡◌, ℕ, ◌-◌, ◌*◌, ◌/◌, ◌%◌, ◌^◌, ◌<◌, ◌==◌, Option, Some, None, List, [], ◌∷◌, map, option_to_list, slice_index, ⊤}
use Rattle.std.specs.Int.{bit_at}
use Rattle.turns.specs.Layouts.{Layout, JobsOver, laid_out, one_each}
use Rattle.turns.specs.Script.{Script, Ends, ◌>>=◌, ◌>>◌, seize, test}
use Rattle.turns.specs.Sharings.{plain}
use Rattle.turns.specs.System.{System, SystemOver, system_of}
use Rattle.turns.specs.declared.clock.Clock.TheVariants.{Counted}
use Rattle.turns.specs.declared.operation.Operation.{Operation}
use Rattle.turns.specs.declared.operation.Operation.TheVariants.{Or, And}
use Rattle.slots.specs.Slots.{Busy, none_busy, lowest_free, both_of, whole}
use Rattle.slots.specs.declared.bank.TheConstants.{BANK_SIZE, SLOT_COUNT}
use Rattle.slots.specs.declared.decision.Decision.{Decision}
use Rattle.slots.specs.declared.decision.Decision.TheVariants.{Takes, Gives}
use Rattle.slots.specs.declared.effect.Effect.{Effect}
use Rattle.slots.specs.declared.effect.Effect.TheVariants.{Mark, Clear}
use Rattle.slots.specs.declared.job.Job.{Job}
use Rattle.slots.specs.declared.job.Job.TheVariants.{Take, TakeBoth, Give}

-- words show a set of taken slots: words 0 and 1 have a bit for each slot of the two banks. Words
-- 2 and 3 are the banks' locks, and word 4 is the turn word.
pub record Shows (words : List ℕ) (busy : Busy) : Type 0 where
  pub bits : (slot : ℕ) → slot < SLOT_COUNT
      → busy slot ≡ (bit_at (slice_index words (slot / BANK_SIZE)) (slot % BANK_SIZE) == 1)

-- each bank has one word, under the bank's lock
abbrev pub banks : Layout
banks = one_each 2

-- the operation that marks a slot in its bank's word, or clears it there
abbrev pub operation_of : Effect → Operation
operation_of (Mark slot) = Or (2 ^ (slot % BANK_SIZE))
operation_of (Clear slot) = And (2 ^ 64 - 1 - 2 ^ (slot % BANK_SIZE))

-- the slot of an effect
abbrev pub slot_of : Effect → ℕ
slot_of (Mark slot) = slot
slot_of (Clear slot) = slot

-- what an effect relies on in its word: a slot that is marked is free
abbrev pub Due : Effect → ℕ → Type 0
Due (Mark slot) word = bit_at word (slot % BANK_SIZE) ≡ 0
Due (Clear slot) word = ⊤

-- the reply of a decision
abbrev pub reply_of : Decision → List ℕ
reply_of (Takes slots) = slots
reply_of (Gives slot) = []

-- the effects of a decision, in their order
abbrev pub effects_of : Decision → List Effect
effects_of (Takes slots) = map Mark slots
effects_of (Gives slot) = Clear slot ∷ []

-- the lowest free slot of a bank, by the bank's word
abbrev pub free_in : ℕ → ℕ → Option ℕ
free_in bank word =
    lowest_free (λ slot. bit_at word (slot % BANK_SIZE) == 1) (BANK_SIZE * bank) BANK_SIZE

-- seize a bank's lock, and find the bank's lowest free slot
unfoldable pub slot_steps : ℕ → Script ℕ (Option ℕ)
slot_steps bank = seize bank >> (test bank >>= (λ word. Ends (free_in bank word)))

-- take a slot of the upper bank, or none
unfoldable pub upper_steps : Script ℕ Decision
upper_steps = slot_steps 1 >>= (λ upper. Ends (Takes (option_to_list upper)))

-- take this slot of the lower bank and one of the upper bank, or none
unfoldable pub upper_too_steps : ℕ → Script ℕ Decision
upper_too_steps lower = slot_steps 1 >>= (λ upper. Ends (Takes (both_of (Some lower) upper)))

-- with a slot of the lower bank, take it; with none, take one of the upper bank
abbrev pub or_upper : Option ℕ → Script ℕ Decision
or_upper (Some lower) = Ends (Takes (lower ∷ []))
or_upper None = upper_steps

-- with a slot of the lower bank, take one of the upper bank too; with none, take none
abbrev pub and_upper : Option ℕ → Script ℕ Decision
and_upper (Some lower) = upper_too_steps lower
and_upper None = Ends (Takes [])

-- the script of a job
abbrev pub script : Job → Script ℕ Decision
script Take = slot_steps 0 >>= or_upper
script TakeBoth = slot_steps 0 >>= and_upper
script (Give slot) = seize (slot / BANK_SIZE) >> Ends (Gives slot)

-- the lock that a job seizes first
abbrev pub first_lock : Job → ℕ
first_lock Take = 0
first_lock TakeBoth = 0
first_lock (Give slot) = slot / BANK_SIZE

-- a job frees only a slot that exists
abbrev pub IsJob : Job → Type 0
IsJob Take = ⊤
IsJob TakeBoth = ⊤
IsJob (Give slot) = slot < SLOT_COUNT

-- the slots as jobs, over the types of their jobs, replies and effects
abbrev pub slot_jobs : JobsOver Job (List ℕ) Effect
slot_jobs = record {
  IsJob = IsJob;
  State = Busy;
  whole = whole;
  opening = none_busy;
  Decision = Decision;
  first = first_lock;
  script = script;
  reply_of = reply_of;
  effects_of = effects_of;
  effect_word = λ effect. slot_of effect / BANK_SIZE;
  operation_of = operation_of;
  Due = Due;
  sharing = plain;
  clock = Counted;
  Shows = Shows;
}

-- the slots as a system, on the banks' words
abbrev pub slots_over : SystemOver ℕ Job (List ℕ) Effect
slots_over = laid_out banks slot_jobs

abbrev pub slots : System
slots = system_of slots_over
