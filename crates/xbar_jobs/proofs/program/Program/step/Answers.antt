use Rattle.std.proofs.Common.{ap, subst, sym, ◌∙◌}
use Rattle.xbar_jobs.specs.{Attempt.{Attempt, Counted, counted}, Counting.after_answer, Standing.{IsValid, attempt_at}}
use Rattle.xbar_jobs.proofs.{Programs.{count_is, is_attempt}, StepsMade.{answer_is, becomes_so, words_are}}
use Rattle.xbar_jobs.proofs.program.Program.step.Goals as goal

abbrev the_attempt : Counted → Attempt
the_attempt p = p.attempt

pub may_go_on-requires-clause-valid : goal.may_go_on-requires-clause-valid
may_go_on-requires-clause-valid c = subst (IsValid c.args.plan.now) (ap the_attempt (sym c.self.view_is)) c.requires.plan

pub invariant_of-self : goal.invariant_of-self
invariant_of-self c =
    let it =
    becomes_so c.args.plan.now c.may_go_on.ensures.lawful c.args.marker c.self.inside.attempt c.step-answer.new.attempt c.args.words.now c.step-answer.new.words
    c.step-answer.result _ (ap the_attempt c.self.view_is) c.step-answer.ensures.answer c.step-answer.ensures.steps c.self.invariant.attempt.job
    c.requires.goes_on c.step-answer.ensures.kind c.requires.plan in
    record {
      attempt = is_attempt c.args.plan.now c.may_go_on.ensures.lawful (attempt_at c.step-answer.new.attempt) it.valid c.effects_are.ensures;
      valid_point = c.step-answer.ensures.valid.point;
    }

pub returns-clause-answer : goal.returns-clause-answer
returns-clause-answer c =
    answer_is c.args.plan.now c.may_go_on.ensures.lawful c.args.marker c.self.inside.attempt c.step-answer.new.attempt c.args.words.now
    c.step-answer.new.words c.step-answer.result _ (ap the_attempt c.self.view_is) c.step-answer.ensures.answer c.step-answer.ensures.steps

pub returns-clause-change : goal.returns-clause-change
returns-clause-change c =
    let it =
    becomes_so c.args.plan.now c.may_go_on.ensures.lawful c.args.marker c.self.inside.attempt c.step-answer.new.attempt c.args.words.now c.step-answer.new.words
    c.step-answer.result _ (ap the_attempt c.self.view_is) c.step-answer.ensures.answer c.step-answer.ensures.steps c.self.invariant.attempt.job
    c.requires.goes_on c.step-answer.ensures.kind c.requires.plan in
    count_is c.step-answer.new.attempt (counted c.self.inside.attempt.count) _ it.change c.step-answer.ensures.count
    ∙ ap (λ (p : Counted). after_answer c.args.plan.now p c.step-answer.result) c.self.view_is

pub returns-clause-words : goal.returns-clause-words
returns-clause-words c =
    words_are c.args.plan.now c.may_go_on.ensures.lawful c.args.marker c.self.inside.attempt c.step-answer.new.attempt c.args.words.now
    c.step-answer.new.words c.step-answer.result _ (ap the_attempt c.self.view_is) c.step-answer.ensures.answer c.step-answer.ensures.steps

pub returns-clause-plan : goal.returns-clause-plan
returns-clause-plan c =
    (becomes_so c.args.plan.now c.may_go_on.ensures.lawful c.args.marker c.self.inside.attempt c.step-answer.new.attempt c.args.words.now
    c.step-answer.new.words c.step-answer.result _ (ap the_attempt c.self.view_is) c.step-answer.ensures.answer c.step-answer.ensures.steps
    c.self.invariant.attempt.job c.requires.goes_on c.step-answer.ensures.kind c.requires.plan).valid

pub returns-clause-turn : goal.returns-clause-turn
returns-clause-turn c =
    (becomes_so c.args.plan.now c.may_go_on.ensures.lawful c.args.marker c.self.inside.attempt c.step-answer.new.attempt c.args.words.now
    c.step-answer.new.words c.step-answer.result _ (ap the_attempt c.self.view_is) c.step-answer.ensures.answer c.step-answer.ensures.steps
    c.self.invariant.attempt.job c.requires.goes_on c.step-answer.ensures.kind c.requires.plan).turn
