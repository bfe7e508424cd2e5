use Rattle.std.proofs.Common.{suc, arith, subst, All}
use Rattle.xbar_fabric.specs.Views.{IsDeskOf}
use Rattle.marker_tests.proofs.threads.ending.part.Goals as goal

pub loop-shift-preserved : goal.loop-shift-preserved
loop-shift-preserved g c =
    let fabric = c.args.fabric.now in
    let put = c.put_desk.ensures in
    let next = c.in-Some.ensures.steps in
    let count = c.loop-shift.invariant.left in
    let left = subst (All (λ shift. IsDeskOf shift.desk fabric)) next.0 c.loop-shift.invariant.rest in
    record {
      rest = λ k d below. left (suc k) d (omega (arith, below));
      left = omega (arith, next.1, put.count, count);
      order = put.order;
    }
