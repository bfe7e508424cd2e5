use Rattle.std.proofs.Common.{subst, sym}
use Rattle.xbar_jobs.specs.{Attempt.Attempt, Standing.{IsAttempt, IsValid}}
use Rattle.xbar_jobs.proofs.{AttemptStands.stands_begun, Programs.{attempt_begun, begun_is, knows_begun, no_plan}}
use Rattle.xbar_jobs.proofs.program.Program.new.Goals as goal

pub invariant_of-result : goal.invariant_of-result
invariant_of-result c = record {
  attempt = subst (λ (a : Attempt). IsAttempt a) (sym (c.begin.ensures.begins no_plan)) (attempt_begun c.args.job c.job_is_in_range.ensures);
  valid_point = knows_begun c.begin.result c.args.job (c.begin.ensures.begins no_plan) (λ seen. c.begin.ensures.point no_plan seen);
}

pub returns-clause-begin : goal.returns-clause-begin
returns-clause-begin c = begun_is c.begin.result c.args.job (c.begin.ensures.begins no_plan) c.begin.ensures.count

pub returns-clause-plan : goal.returns-clause-plan
returns-clause-plan c =
    λ plan laws. subst (λ (a : Attempt). IsValid plan a) (sym (c.begin.ensures.begins plan))
    (stands_begun plan c.args.job laws c.job_is_in_range.ensures)
