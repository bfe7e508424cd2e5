use Rattle.std.proofs.Common.{ap, subst, sym, ◌∙◌}
use Rattle.{turns.specs.Attempt.restarted, xbar_jobs.specs.{Attempt.{Attempt, Counted, with_count}, Office.office, Standing.{IsValid, attempt_at}}}
use Rattle.xbar_jobs.proofs.{AttemptStands.stands_again, Programs.{attempt_restarted, count_is, no_plan}}
use Rattle.xbar_jobs.proofs.program.Program.restart.Goals as goal

pub invariant_of-self : goal.invariant_of-self
invariant_of-self c = record {
  attempt =
      attempt_restarted no_plan (attempt_at c.self.inside.attempt) (attempt_at c.restart.new.attempt) c.self.invariant.attempt
      (c.restart.ensures.restarts no_plan);
  valid_point = c.restart.ensures.point no_plan c.self.invariant.valid_point;
}

pub returns-clause-change : goal.returns-clause-change
returns-clause-change c = λ plan.
    count_is c.restart.new.attempt c.self.inside.attempt.count (restarted (office plan) (attempt_at c.self.inside.attempt)) (c.restart.ensures.restarts plan)
    c.restart.ensures.count
    ∙ ap (λ (p : Counted). with_count p.count (restarted (office plan) p.attempt)) c.self.view_is

pub returns-clause-plan : goal.returns-clause-plan
returns-clause-plan c = λ plan laws valid.
    let same = ap (λ (p : Counted). p.attempt) (sym c.self.view_is) in
    subst (λ (a : Attempt). IsValid plan a) (sym (c.restart.ensures.restarts plan))
    (stands_again plan (attempt_at c.self.inside.attempt) laws c.self.invariant.attempt.job (subst (λ (a : Attempt). IsValid plan a) same valid))
