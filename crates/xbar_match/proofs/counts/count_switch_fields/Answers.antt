use Rattle.std.proofs.Common.{◌≡◌, ℕ, ◌+◌, sym, ◌∙◌, ap, ap₂, arith, slice_index}
use Rattle.{xbar_switch.specs.declared.shape.Shape.Shape, xbar_match.specs.{Switches.shape_at, Counts.closed_fields}}
use Rattle.xbar_match.proofs.ClosedCounts.{sum_below-zero, sum_below-more}
use Rattle.xbar_match.proofs.counts.count_switch_fields.Goals as goal

pub loop-number-init : goal.loop-number-init
loop-number-init c = record { counted = sym (sum_below-zero _); few = omega arith }

pub loop-number-preserved : goal.loop-number-preserved
loop-number-preserved c =
    let f = λ (n : ℕ). closed_fields (shape_at n) (slice_index c.args.words.now n) in
    let n = c.loop-number.number in
    let here : c.count_fields-count.result ≡ f n =
    c.count_fields-count.ensures.count
    ∙ ap (λ (s : Shape). closed_fields s (slice_index c.args.words.now c.from.result)) c.shape_at.ensures
    ∙ ap (λ (i : ℕ). closed_fields (shape_at n) (slice_index c.args.words.now i)) c.from.ensures in
    record {
      counted = ap₂ (λ a b. a + b) c.loop-number.invariant.counted here ∙ sym (sum_below-more f n);
      few = omega (arith, c.loop-number.invariant.few, c.count_fields-count.ensures.range);
    }
