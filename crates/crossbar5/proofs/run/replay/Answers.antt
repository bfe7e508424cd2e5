use Rattle.{std.proofs.lemmas.Result.IfOk-weaker, crossbar5.proofs.Outcomes.{both, left_history, left_replay, refused_history, refused_replay}}
use Rattle.crossbar5.proofs.run.replay.Goals as goal

pub returns-in-Ok : goal.returns-in-Ok
returns-in-Ok c =
    let traffic = c.in_ok-traffic.traffic in
    let reach = rw c.in-Ok.is at c.in_ok-office.ensures in
    IfOk-weaker c.settled.result _ _ (λ written is. record {
      rows = traffic.rows.items;
      fault = traffic.fault;
      read = c.in_ok-traffic.ensures.traffic;
      history = left_history c.args.plan.now _ c.in-Ok.office reach.reached reach.plan is.1;
      written = left_replay c.args.plan.now _ c.in-Ok.office reach.reached reach.plan written.text.items written.status is.0;
    }) (both c.settled.result _ _ c.settled.ensures.written c.settled.ensures.history)

pub returns : goal.returns
returns c =
    let traffic = c.in_ok-traffic.traffic in
    let reach = rw c.in-Err.is at c.in_ok-office.ensures in
    IfOk-weaker c.refused.result _ _ (λ written is. record {
      rows = traffic.rows.items;
      fault = traffic.fault;
      read = c.in_ok-traffic.ensures.traffic;
      history = refused_history c.args.plan.now _ c.in-Err.fault reach.reached;
      written = refused_replay c.args.plan.now _ c.in-Err.fault reach.reached written.text.items written.status is;
    }) c.refused.ensures
