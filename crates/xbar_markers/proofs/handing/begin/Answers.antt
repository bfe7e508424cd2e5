use Rattle.std.proofs.Common.{◌≡◌, ℕ, ap, zero, suc, ◌+◌, arith, subst}
use Rattle.{xbar_moves.specs.Exchange.is_idle, xbar_fabric.specs.Views.DeskView, xbar_markers.specs.{Handing.IsLeft, Work.{IsDoneOr, assigned_to}}}
use Rattle.xbar_markers.proofs.JobsInHand.{assigned_now, stays_of, steps_both}
use Rattle.xbar_markers.proofs.handing.begin.Goals as goal

pub loop-made-init : goal.loop-made-init
loop-made-init c =
    let doing = assigned_now c.args.job_no c.args.job c.args.desk c.assign.new.self c.in_default.ensures.1 in
    record {
      of = stays_of c.args.job_no c.args.job c.args.desk c.assign.new.self c.args.fabric.now doing c.requires;
      below = omega arith;
      left = record {
        doing = doing;
        busy = ap (λ (d : DeskView). is_idle d.work) c.in_default.ensures.1;
        made = c.in_default.ensures.1;
      };
    }

pub returns-in-Some-clause-begun : goal.returns-in-Some-clause-begun
returns-in-Some-clause-begun c =
    let left = c.loop-made.invariant.left in (
      c.in_default.ensures.0,
      record {
        done = c.in-Some.ensures.done c.args.desk c.args.job_no c.args.job left.doing;
        count = c.loop-made._made + suc zero;
        few = omega (arith, c.loop-made-test.true);
        made =
            steps_both c.loop-made._made (suc zero) (assigned_to c.args.desk c.args.job_no c.args.job) c.loop-made.desk c.step_on.new.desk left.made
            (c.in-Some.ensures.made left.busy);
      },
    )

pub loop-made-preserved : goal.loop-made-preserved
loop-made-preserved c =
    let left = c.loop-made.invariant.left in
    record {
      of = c.step_on.ensures.desk;
      below = omega (arith, c.loop-made-test.true);
      left = record {
        doing =
            subst (λ o. IsDoneOr c.args.job_no c.args.job c.args.desk c.step_on.new.desk o) c.in_default-step_on.is
            (c.step_on.ensures.done c.args.desk c.args.job_no c.args.job left.doing);
        busy = c.step_on.ensures.busy left.busy c.in_default-step_on.is;
        made =
            steps_both c.loop-made._made (suc zero) (assigned_to c.args.desk c.args.job_no c.args.job) c.loop-made.desk c.step_on.new.desk left.made
            (c.step_on.ensures.made left.busy);
      };
    }

pub returns-clause-begun : goal.returns-clause-begun
returns-clause-begun c =
    let inv = c.loop-made.invariant in
    let all : c.loop-made._made ≡ c.args.stop = omega (arith, inv.below, c.loop-made-test.false) in
    (c.in_default.ensures.0, subst (λ (n : ℕ). IsLeft c.args.desk c.args.job_no c.args.job n c.loop-made.desk) all inv.left)
