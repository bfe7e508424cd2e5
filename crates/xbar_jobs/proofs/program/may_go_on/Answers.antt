use Rattle.xbar_jobs.proofs.Programs.{scripts_are, stands_here}
use Rattle.xbar_jobs.proofs.program.may_go_on.Goals as goal

pub returns-clause-scripts : goal.returns-clause-scripts
returns-clause-scripts c = scripts_are c.args.plan.now c.every_plan_is_lawful.ensures

pub returns-clause-valid : goal.returns-clause-valid
returns-clause-valid c = stands_here c.args.plan.now c.args.attempt.now c.requires.valid c.requires.valid_point
