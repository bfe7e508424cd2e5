use Rattle.std.proofs.Common.{sym}
use Rattle.{std.proofs.lemmas.List.Sorted.sum_by-IsPermutation, fair_queue.proofs.Weights.SameItems-permutation}
use Rattle.fair_queue.proofs.laws.same_items_are_permutations.Goals as goal

pub returns-clause-permuted : goal.returns-clause-permuted
returns-clause-permuted g c = SameItems-permutation g.row.X.coded

pub returns-clause-same : goal.returns-clause-same
returns-clause-same g c xs ys permuted h = sym (sum_by-IsPermutation h xs ys permuted)
