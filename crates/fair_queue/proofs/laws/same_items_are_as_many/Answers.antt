use Rattle.{std.proofs.lemmas.List.Sorted.Contains-permutation, fair_queue.proofs.Weights.{SameItems-length, SameItems-permutation}}
use Rattle.fair_queue.proofs.laws.same_items_are_as_many.Goals as goal

pub returns-clause-length : goal.returns-clause-length
returns-clause-length g c = SameItems-length

pub returns-clause-contained : goal.returns-clause-contained
returns-clause-contained g c xs ys x same =
    Contains-permutation xs ys x (SameItems-permutation g.row.X.coded xs ys same)
