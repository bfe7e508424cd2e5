use Rattle.std.proofs.Common.{sym, ap, ◌∙◌, sum_by}
use Rattle.std.proofs.lemmas.List.Sorted.{sum_by-IsPermutation}
use Rattle.xbar_markers.proofs.gathering.in_turn_order.Goals as goal

pub returns-clause-records : goal.returns-clause-records
returns-clause-records c h =
    sym (sum_by-IsPermutation h _ _ c.sort_by_turn.ensures.permuted
    ∙ ap (sum_by h) c.in_ok-records.ensures)
