use Rattle.xbar_office.proofs.LawfulJobs.{lawful-empty, lawful-whole, lawful-after}
use Rattle.xbar_office.proofs.laws.jobs_leave_lawful_sets.Goals as goal

pub returns-clause-empty : goal.returns-clause-empty
returns-clause-empty c = λ plan. lawful-empty plan

pub returns-clause-job : goal.returns-clause-job
returns-clause-job c = λ plan paths job laws lawful in_range. lawful-whole plan paths job laws lawful in_range

pub returns-clause-jobs : goal.returns-clause-jobs
returns-clause-jobs c = λ plan paths jobs laws lawful in_range. lawful-after plan laws jobs paths lawful in_range
