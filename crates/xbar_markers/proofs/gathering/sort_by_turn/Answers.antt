use Rattle.std.proofs.Common.{rules}
use Rattle.{std.proofs.lemmas.List.Sorted.IsNonDecreasingBy-from_sort_by_key, xbar_markers.proofs.DeskRuns.on_ok}
use Rattle.xbar_markers.proofs.gathering.sort_by_turn.Goals as goal

pub returns-clause-order : goal.returns-clause-order
returns-clause-order c =
    on_ok c.sort_by_cached_key.result
    (λ sorted.
    IsNonDecreasingBy-from_sort_by_key (λ r. r.turn) _ sorted (λ a r f called. search rules))
    c.sort_by_cached_key.ensures.sorted
