use Rattle.std.proofs.Common.{arith}
use Rattle.slots.proofs.SlotsSystem.{slots_system}
use Rattle.slots.proofs.laws.every_run_of_slots_is_lawful.Goals as goal

pub returns : goal.returns
returns c = λ count moves few are. c.every_run_is_lawful.ensures tt count moves slots_system (omega (arith, few)) are
