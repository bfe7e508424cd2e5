-- a job of slots tests at most two words, seizes at most two locks and has at most two effects
use Rattle.std.proofs.Common.{ℕ, ◌≤◌, length, arith, Option, Some, None, option_to_list}
use Rattle.turns.specs.{Bounds.{AreBounded, AllEndsHave}, Script.{◌>>=◌, AsksAtMost}}
use Rattle.slots.specs.{System.{and_upper, effects_of, free_in, or_upper, script, slot_steps, slots, upper_steps, upper_too_steps}, Slots.both_of}
use Rattle.slots.specs.declared.{decision.Decision.{Decision, TheVariants.Takes}, job.Job.{Job, TheVariants.{Take, TakeBoth, Give}}}

abbrev HasFew : Decision → Type 0
HasFew decision = length (effects_of decision) ≤ 2

asks_or : (o : Option ℕ) → AsksAtMost 1 1 (or_upper o)
unfolding AsksAtMost ◌>>=◌ slot_steps upper_steps
asks_or None = λ word below. tt
asks_or (Some lower) = tt

asks_and : (o : Option ℕ) → AsksAtMost 1 1 (and_upper o)
unfolding AsksAtMost ◌>>=◌ slot_steps upper_too_steps
asks_and None = tt
asks_and (Some lower) = λ word below. tt

asks : (job : Job) → AsksAtMost 2 2 (script job)
unfolding AsksAtMost ◌>>=◌ slot_steps
asks Take = λ word below. asks_or (free_in 0 word)
asks TakeBoth = λ word below. asks_and (free_in 0 word)
asks (Give slot) = tt

few_one : (o : Option ℕ) → HasFew (Takes (option_to_list o))
few_one None = omega arith
few_one (Some slot) = omega arith

few_both : (lower : ℕ) (o : Option ℕ) → HasFew (Takes (both_of (Some lower) o))
few_both lower None = omega arith
few_both lower (Some upper) = omega arith

ends_or : (o : Option ℕ) → AllEndsHave HasFew (or_upper o)
unfolding AllEndsHave ◌>>=◌ slot_steps upper_steps
ends_or None = λ word below. few_one (free_in 1 word)
ends_or (Some lower) = omega arith

ends_and : (o : Option ℕ) → AllEndsHave HasFew (and_upper o)
unfolding AllEndsHave ◌>>=◌ slot_steps upper_too_steps
ends_and None = omega arith
ends_and (Some lower) = λ word below. few_both lower (free_in 1 word)

ends : (job : Job) → AllEndsHave HasFew (script job)
unfolding AllEndsHave ◌>>=◌ slot_steps
ends Take = λ word below. ends_or (free_in 0 word)
ends TakeBoth = λ word below. ends_and (free_in 0 word)
ends (Give slot) = omega arith

pub slots_bounded : AreBounded slots 2 2 2
slots_bounded = record { asks = λ job right. asks job; effects = λ job right. ends job }
