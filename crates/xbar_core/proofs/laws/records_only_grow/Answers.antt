use Rattle.xbar_core.proofs.GrownRecords.{move_begins, run_begins}
use Rattle.xbar_core.proofs.laws.records_only_grow.Goals as goal

pub returns-clause-moved : goal.returns-clause-moved
returns-clause-moved c = λ plan e move. move_begins plan e move

pub returns-clause-run : goal.returns-clause-run
returns-clause-run c = λ plan e moves. run_begins plan e moves
