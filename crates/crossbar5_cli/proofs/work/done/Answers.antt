use Rattle.{crossbar5.specs.PlanRefusal.plan_in, crossbar5_cli.proofs.Answering.{calls_done, task_done}}
use Rattle.crossbar5_cli.proofs.work.done.Goals as goal

pub returns-in-Task-clause-done : goal.returns-in-Task-clause-done
returns-in-Task-clause-done g c =
    task_done c.args.work.now (plan_in c.args.plan) (g.R.Read.remaining c.args.input.now) c.do_task.result
    c.in-Task.task c.in-Task.kinds c.in-Task.is c.do_task.ensures.done

pub returns-in_ok-gates-in-Live-clause-done : goal.returns-in_ok-gates-in-Live-clause-done
returns-in_ok-gates-in-Live-clause-done g c =
    calls_done c.args.work.now (plan_in c.args.plan) (g.R.Read.remaining c.args.input.now) c.do_live.result
    c.in-Live.markers c.in-Live.is c.do_live.ensures.live
