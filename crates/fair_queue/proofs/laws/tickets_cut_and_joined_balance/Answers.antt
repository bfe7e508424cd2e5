use Rattle.fair_queue.proofs.Joining.{back_unused, whole_again}
use Rattle.fair_queue.proofs.laws.tickets_cut_and_joined_balance.Goals as goal

pub returns-clause-many : goal.returns-clause-many
returns-clause-many g c = back_unused

pub returns-clause-whole : goal.returns-clause-whole
returns-clause-whole g c = whole_again
