use Rattle.std.proofs.Common.{◌≡◌, ◌*◌, ◌≤◌, slice_index}
use Rattle.xbar_match.specs.{Switches.shape_at, Counts.{sum_below, closed_fields}}
use Rattle.xbar_match.proofs.counts.count_switch_fields.Given as goal

abbrev pub invariant-loop-number : goal.invariant-loop-number
invariant-loop-number l = record {
  counted : l.count ≡ sum_below (λ n. closed_fields (shape_at n) (slice_index l.words n)) l.number;
  few : l.count ≤ 10 * l.number;
}
