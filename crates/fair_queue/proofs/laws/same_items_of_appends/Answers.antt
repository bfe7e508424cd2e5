use Rattle.fair_queue.proofs.Weights.{SameItems-cancel}
use Rattle.fair_queue.proofs.laws.same_items_of_appends.Goals as goal

pub returns-clause-cut : goal.returns-clause-cut
returns-clause-cut g c = SameItems-cancel
