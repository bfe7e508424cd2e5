use Rattle.xbar_look.proofs.JobsTold.{next_made, next_told}
use Rattle.xbar_look.proofs.laws.the_next_step_is_made_next.Goals as goal

pub returns-clause-next : goal.returns-clause-next
returns-clause-next c = λ m u told. next_told m u told

pub returns-clause-made : goal.returns-clause-made
returns-clause-made c = λ plan e k m u there told. next_made plan e k m u there told
