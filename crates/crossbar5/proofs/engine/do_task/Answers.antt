use Rattle.crossbar5.{proofs.PlanRefusals.refused_input, specs.{PlanRefusal.plan_in, Tasks.IsDoneUnder}}
use Rattle.crossbar5.proofs.engine.do_task.Goals as goal

pub returns-in-Refused-clause-done : goal.returns-in-Refused-clause-done
returns-in-Refused-clause-done g c =
    refused_input (IsDoneUnder c.args.task c.args.kinds.now) (g.R.Read.remaining c.args.source.now) (plan_in c.args.plan) c.in_ok-plan.field-0
    c.in-Refused.written c.in-Refused.is c.in_ok-plan.ensures.input
