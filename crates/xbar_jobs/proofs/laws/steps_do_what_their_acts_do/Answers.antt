use Rattle.xbar_jobs.proofs.StepActs.{act_answer, act_operation, act_word}
use Rattle.xbar_jobs.proofs.laws.steps_do_what_their_acts_do.Goals as goal

pub returns-clause-word : goal.returns-clause-word
returns-clause-word c = act_word

pub returns-clause-operation : goal.returns-clause-operation
returns-clause-operation c = act_operation

pub returns-clause-answer : goal.returns-clause-answer
returns-clause-answer c = act_answer
