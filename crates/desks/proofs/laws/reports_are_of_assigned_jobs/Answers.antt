use Rattle.{turns.specs.System.system_of, desks.proofs.JobKept.{back_job, step_job, steps_job, told_job}}
use Rattle.desks.proofs.laws.reports_are_of_assigned_jobs.Goals as goal

pub returns-clause-stepped : goal.returns-clause-stepped
returns-clause-stepped g c setting = step_job (system_of (g.F.Jobs.system setting))

pub returns-clause-made : goal.returns-clause-made
returns-clause-made g c setting = steps_job (system_of (g.F.Jobs.system setting))

pub returns-clause-given_back : goal.returns-clause-given_back
returns-clause-given_back g c setting = back_job (system_of (g.F.Jobs.system setting))

pub returns-clause-reported : goal.returns-clause-reported
returns-clause-reported g c setting = told_job (system_of (g.F.Jobs.system setting))
