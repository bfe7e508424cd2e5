use Rattle.std.proofs.Common.{ap, subst, sym, ◌∙◌}
use Rattle.xbar_jobs.specs.{Attempt.{Attempt, Counted, counted}, Counting.after_answer, Standing.{IsValid, attempt_at}}
use Rattle.xbar_jobs.proofs.Programs.{count_is, is_attempt, told}
use Rattle.xbar_jobs.proofs.program.Program.take.Goals as goal

abbrev the_attempt : Counted → Attempt
the_attempt p = p.attempt

pub may_go_on-requires-clause-valid : goal.may_go_on-requires-clause-valid
may_go_on-requires-clause-valid c = subst (IsValid c.args.plan.now) (ap the_attempt (sym c.self.view_is)) c.requires.plan

pub invariant_of-self : goal.invariant_of-self
invariant_of-self c =
    let it =
    told c.args.plan.now c.may_go_on.ensures.lawful c.self.inside.attempt c.apply.new.attempt c.args.answer _ (ap the_attempt c.self.view_is)
    c.self.invariant.attempt.job c.requires.answer c.requires.plan c.apply.ensures.change in
    record {
      attempt = is_attempt c.args.plan.now c.may_go_on.ensures.lawful (attempt_at c.apply.new.attempt) it.valid c.effects_are.ensures;
      valid_point = c.apply.ensures.valid.point;
    }

pub returns-clause-change : goal.returns-clause-change
returns-clause-change c =
    let it =
    told c.args.plan.now c.may_go_on.ensures.lawful c.self.inside.attempt c.apply.new.attempt c.args.answer _ (ap the_attempt c.self.view_is)
    c.self.invariant.attempt.job c.requires.answer c.requires.plan c.apply.ensures.change in
    count_is c.apply.new.attempt (counted c.self.inside.attempt.count) _ it.change c.apply.ensures.count
    ∙ ap (λ (p : Counted). after_answer c.args.plan.now p c.args.answer) c.self.view_is

pub returns-clause-plan : goal.returns-clause-plan
returns-clause-plan c =
    let it =
    told c.args.plan.now c.may_go_on.ensures.lawful c.self.inside.attempt c.apply.new.attempt c.args.answer _ (ap the_attempt c.self.view_is)
    c.self.invariant.attempt.job c.requires.answer c.requires.plan c.apply.ensures.change in
    it.valid

pub returns-clause-turn : goal.returns-clause-turn
returns-clause-turn c =
    let it =
    told c.args.plan.now c.may_go_on.ensures.lawful c.self.inside.attempt c.apply.new.attempt c.args.answer _ (ap the_attempt c.self.view_is)
    c.self.invariant.attempt.job c.requires.answer c.requires.plan c.apply.ensures.change in
    it.turn
