use Rattle.std.proofs.Common.{◌≡◌, ◌≤◌, ◌==◌, if◌then◌else◌}
use Rattle.{xbar_switch.specs.Field.field_of, xbar_match.specs.Counts.sum_below}
use Rattle.xbar_match.proofs.counts.count_fields.Given as goal

abbrev pub invariant-loop-v : goal.invariant-loop-v
invariant-loop-v l = record {
  counted : l.count ≡ sum_below (λ v. if field_of l.shape l.word v == 0 then 0 else 1) l.v;
  few : l.count ≤ l.v;
}
