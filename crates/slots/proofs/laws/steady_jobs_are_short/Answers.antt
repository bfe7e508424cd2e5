use Rattle.slots.proofs.{SlotBounds.slots_bounded, SlotsSystem.slots_system}
use Rattle.slots.proofs.laws.steady_jobs_are_short.Goals as goal

pub returns : goal.returns
returns c = λ job answers right steady. c.steady_attempts_are_short.ensures.fresh tt 2 2 2 job answers slots_system slots_bounded right steady
