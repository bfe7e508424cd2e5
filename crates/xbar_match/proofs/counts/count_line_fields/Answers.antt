use Rattle.std.proofs.Common.{◌≡◌, ℕ, ◌+◌, ◌/◌, ◌%◌, sym, ◌∙◌, ap, ap₂, arith}
use Rattle.{xbar_equip.specs.Word.LineSwitch, xbar_switch.specs.declared.shape.Shape.TheVariants.Line}
use Rattle.xbar_match.{specs.{Switches.word_of, Counts.closed_fields}, proofs.ClosedCounts.{sum_below-zero, sum_below-more}}
use Rattle.xbar_match.proofs.counts.count_line_fields.Goals as goal

pub loop-k-init : goal.loop-k-init
loop-k-init c = record { counted = sym (sum_below-zero _); few = omega arith }

pub loop-k-preserved : goal.loop-k-preserved
loop-k-preserved c =
    let f = λ (k : ℕ). closed_fields Line (word_of c.args.words.now (LineSwitch (k / 10) (k % 10))) in
    let k = c.loop-k.k in
    let here : c.count_fields-count.result ≡ f k =
    c.count_fields-count.ensures.count
    ∙ ap (λ (w : ℕ). closed_fields Line w) c.line_word.ensures in
    record {
      counted = ap₂ (λ a b. a + b) c.loop-k.invariant.counted here ∙ sym (sum_below-more f k);
      few = omega (arith, c.loop-k.invariant.few, c.count_fields-count.ensures.range);
    }
