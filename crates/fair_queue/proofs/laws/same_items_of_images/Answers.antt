use Rattle.fair_queue.proofs.Weights.{SameItems-map, SameItems-flat_map}
use Rattle.fair_queue.proofs.laws.same_items_of_images.Goals as goal

pub returns-clause-one : goal.returns-clause-one
returns-clause-one g c = SameItems-map

pub returns-clause-many : goal.returns-clause-many
returns-clause-many g c = SameItems-flat_map
