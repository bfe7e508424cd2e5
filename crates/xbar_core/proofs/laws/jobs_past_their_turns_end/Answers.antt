use Rattle.xbar_core.proofs.{PastTurns.past_turn_ends, ToldEvents.last_finishes}
use Rattle.xbar_core.proofs.laws.jobs_past_their_turns_end.Goals as goal

pub returns-clause-ends : goal.returns-clause-ends
returns-clause-ends c = past_turn_ends

pub returns-clause-told : goal.returns-clause-told
returns-clause-told c = last_finishes
