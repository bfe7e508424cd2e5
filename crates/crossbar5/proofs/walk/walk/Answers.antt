use Rattle.std.proofs.Common.{refl}
use Rattle.{std.proofs.lemmas.Result.IfOk-weaker, crossbar5.specs.{Rows.after_rows, Walk.{opened, walk_after_rows, whole_walk}}}
use Rattle.crossbar5.proofs.Outcomes.{left_walk, refused_walk}
use Rattle.crossbar5.proofs.walk.walk.Goals as goal

pub returns-in-Ok : goal.returns-in-Ok
unfolding after_rows
returns-in-Ok c =
    let traffic = c.in_ok-traffic.traffic in
    let reach = rw c.in-Ok.is at c.in_ok-office.ensures in
    let begun = opened c.args.detail c.args.plan.now c.args.kinds.now in
    let agrees = reach.observed begun (record { office_is = refl; described = c.new-story.ensures }) in
    IfOk-weaker c.settled.result _ _ (λ written is. record {
      rows = traffic.rows.items;
      fault = traffic.fault;
      read = c.in_ok-traffic.ensures.traffic;
      told =
          left_walk c.args.plan.now _ c.in-Ok.office reach.reached reach.plan written.text.items written.status
          (whole_walk c.args.detail c.args.plan.now c.args.kinds.now traffic.rows.items) is;
    }) (c.settled.ensures (walk_after_rows traffic.rows.items begun) agrees)

pub returns : goal.returns
returns c =
    let traffic = c.in_ok-traffic.traffic in
    let reach = rw c.in-Err.is at c.in_ok-office.ensures in
    IfOk-weaker c.refused.result _ _ (λ written is. record {
      rows = traffic.rows.items;
      fault = traffic.fault;
      read = c.in_ok-traffic.ensures.traffic;
      told =
          refused_walk c.args.plan.now _ c.in-Err.fault reach.reached written.text.items written.status is
          (whole_walk c.args.detail c.args.plan.now c.args.kinds.now traffic.rows.items);
    }) c.refused.ensures
