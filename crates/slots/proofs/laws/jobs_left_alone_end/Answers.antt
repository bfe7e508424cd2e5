use Rattle.std.proofs.Common.{arith}
use Rattle.slots.proofs.{SlotBounds.slots_bounded, SlotsSystem.slots_system}
use Rattle.slots.proofs.laws.jobs_left_alone_end.Goals as goal

pub returns : goal.returns
returns c =
    λ w k number a count law there aside fits. c.actors_left_alone_end.ensures tt 2 2 2 w k number a count slots_system slots_bounded law there aside
    (omega arith)
