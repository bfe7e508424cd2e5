use Rattle.std.proofs.Common.{◌≡◌, ℕ, ◌+◌, ◌==◌, if◌then◌else◌, sym, ◌∙◌, arith}
use Rattle.{xbar_switch.specs.Field.field_of, xbar_match.specs.Counts.sum_below}
use Rattle.xbar_match.proofs.ClosedCounts.{sum_below-zero, sum_below-more, counts-closed, counts-open}
use Rattle.xbar_match.proofs.counts.count_fields.Goals.{then-field-ne0, else-field-ne0}
use Rattle.xbar_match.proofs.counts.count_fields.Goals as goal

pub loop-v-init : goal.loop-v-init
loop-v-init c = record { counted = sym (sum_below-zero _); few = omega arith }

-- the count with one number more
counted-more : (f : ℕ → ℕ) (n count one new : ℕ) → count ≡ sum_below f n → f n ≡ one → new ≡ count + one → new ≡ sum_below f (n + 1)
counted-more f n count one new so_far here is = omega (arith, sum_below-more f n, so_far, here)

pub loop-v-preserved : goal.loop-v-preserved
loop-v-preserved c =
    let f : ℕ → ℕ = λ v. if field_of c.args.shape c.args.word v == 0 then 0 else 1 in
    let v = c.loop-v.v in
    elim c.if-field-ne0.branch [
      | then-field-ne0 w ↦
          let one = counts-closed (field_of c.args.shape c.args.word v) (λ e. w.if-field-ne0.true (c.field.ensures.value ∙ e)) in
          record {
            counted = counted-more f v c.loop-v.count 1 c.if-field-ne0.count c.loop-v.invariant.counted one w.count-is;
            few = omega (arith, w.count-is, c.loop-v.invariant.few);
          }
      | else-field-ne0 w ↦
          let none = counts-open (field_of c.args.shape c.args.word v) (sym c.field.ensures.value ∙ w.if-field-ne0.false) in
          let is : c.if-field-ne0.count ≡ c.loop-v.count + 0 = omega (arith, w.count-is) in
          record {
            counted = counted-more f v c.loop-v.count 0 c.if-field-ne0.count c.loop-v.invariant.counted none is;
            few = omega (arith, w.count-is, c.loop-v.invariant.few);
          }
    ]
