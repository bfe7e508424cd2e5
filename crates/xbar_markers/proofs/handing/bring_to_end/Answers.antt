use Rattle.std.proofs.Common.{subst, refl, zero, suc, ◌+◌}
use Rattle.xbar_markers.{specs.Work.IsDoneOr, proofs.JobsInHand.steps_both}
use Rattle.xbar_markers.proofs.handing.bring_to_end.Goals as goal

pub loop-init : goal.loop-init
loop-init g c = record {
  of = c.requires.of;
  busy = c.requires.busy;
  doing = λ before number job doing. doing;
  made = (zero, refl);
}

pub returns-in-Some-step_on-clause-done : goal.returns-in-Some-step_on-clause-done
returns-in-Some-step_on-clause-done g c = λ before number job doing.
    c.in-Some-step_on.ensures.done before number job (c.loop.invariant.doing before number job doing)

pub returns-in-Some-step_on-clause-made : goal.returns-in-Some-step_on-clause-made
returns-in-Some-step_on-clause-made g c =
    let made = c.loop.invariant.made in
    (made.0 + suc zero, steps_both made.0 (suc zero) c.args.desk.now c.loop.desk c.step_on.new.desk made.1 (c.step_on.ensures.made c.loop.invariant.busy))

pub loop-preserved : goal.loop-preserved
loop-preserved g c =
    let inv = c.loop.invariant in
    record {
      of = c.step_on.ensures.desk;
      busy = c.step_on.ensures.busy inv.busy c.in_default.is;
      doing = λ before number job doing. subst (λ o. IsDoneOr number job before c.step_on.new.desk o) c.in_default.is
          (c.step_on.ensures.done before number job (inv.doing before number job doing));
      made =
          (inv.made.0 + suc zero, steps_both inv.made.0 (suc zero) c.args.desk.now c.loop.desk c.step_on.new.desk inv.made.1 (c.step_on.ensures.made inv.busy));
    }
