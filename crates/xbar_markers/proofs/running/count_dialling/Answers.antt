use Rattle.std.proofs.Common.{◌∙◌, arith, sym}
use Rattle.xbar_markers.proofs.KindsOfDesks.{ends_here, goes_on}
use Rattle.xbar_markers.proofs.running.count_dialling.Goals as goal

pub returns-in-Completing : goal.returns-in-Completing
returns-in-Completing c dialling completing are =
    let same = c.loop-desk.invariant.count in
    let below = c.loop-desk.invariant.below dialling completing are in
    let here = ends_here dialling completing c.args.desks.now are c.loop-desk.desk-index c.desk-item.result
    (omega (arith, same, below)) c.desk-item.is (sym c.kind.ensures ∙ c.in-Completing.is) in
    same ∙ here

pub loop-desk-preserved : goal.loop-desk-preserved
loop-desk-preserved c =
    let same = c.loop-desk.invariant.count in record {
      count = omega (arith, same);
      below = λ dialling completing are.
          let below = c.loop-desk.invariant.below dialling completing are in
          let next = goes_on dialling completing c.args.desks.now are c.loop-desk.desk-index c.desk-item.result
          (omega (arith, same, below)) c.loop-desk-test.true c.desk-item.is (λ is. c.in_default.not-Completing (c.kind.ensures ∙ is)) in
          omega (arith, same, next);
    }
