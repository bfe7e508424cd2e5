use Rattle.slots.proofs.SlotsSystem.{slots_system}
use Rattle.slots.proofs.laws.unheld_words_show_the_slots.Goals as goal

pub returns : goal.returns
returns c = λ w slot law unheld below. (c.jobs_act_at_their_turns.ensures.free tt w slots_system law unheld).bits slot below
