use Rattle.desks.specs.Views.{IsDeskOf}
use Rattle.benches.proofs.notes.hand_notes.Given as goal

abbrev pub invariant-loop-made : goal.invariant-loop-made
invariant-loop-made l = IsDeskOf l.writer l.room tt × IsDeskOf l.reader l.room tt
