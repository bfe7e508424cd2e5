use Rattle.std.proofs.Common.{List, sym, subst}
use Rattle.{xbar_equip.specs.declared.path.Path.Path, xbar_office.specs.{LawfulSet.IsLawfulSet, Legal.IsJob, declared.job.Job.Job}}
use Rattle.xbar_office.{specs.declared.job.Job.TheVariants.{Dial, Complete, Release}, proofs.LawfulJobs.{lawful-whole, lawful-either}}
use Rattle.xbar_office.proofs.office.Office.whole.Goals as goal

pub invariant_of-self : goal.invariant_of-self
invariant_of-self c =
    lawful-either c.self.inside.plan.now c.self.inside.paths.items (Dial c.in-Dial.line) c.every_plan_is_lawful.ensures c.self.invariant
    (subst (λ (j : Job). IsJob j) c.in-Dial.is c.job_is_in_range.ensures) c.dial.result c.dial.new.paths.items c.dial.ensures.ok c.dial.ensures.err

pub invariant_of-self-in-Complete : goal.invariant_of-self-in-Complete
invariant_of-self-in-Complete c =
    lawful-either c.self.inside.plan.now c.self.inside.paths.items (Complete c.in-Complete.line c.in-Complete.dialled) c.every_plan_is_lawful.ensures
    c.self.invariant
    (subst (λ (j : Job). IsJob j) c.in-Complete.is c.job_is_in_range.ensures) c.complete.result c.complete.new.paths.items c.complete.ensures.ok
    c.complete.ensures.err

pub invariant_of-self-in-Release : goal.invariant_of-self-in-Release
invariant_of-self-in-Release c =
    subst (λ (p : List Path). IsLawfulSet c.self.inside.plan.now p) (sym c.release.ensures.paths)
    (lawful-whole c.self.inside.plan.now c.self.inside.paths.items (Release c.in-Release.line) c.every_plan_is_lawful.ensures c.self.invariant
    (subst (λ (j : Job). IsJob j) c.in-Release.is c.job_is_in_range.ensures))
