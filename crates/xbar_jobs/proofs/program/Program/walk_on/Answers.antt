use Rattle.std.proofs.Common.{ap, subst, sym, ◌∙◌}
use Rattle.attempts.specs.{Counting.counted_by, WalkOnWords.LeadsTo, Running.RunsFarEnough}
use Rattle.xbar_jobs.{specs.{Attempt.{Attempt, Counted}, Office.office, Standing.{IsValid, attempt_at}}, proofs.Programs.{is_attempt, ran}}
use Rattle.xbar_jobs.proofs.program.Program.walk_on.Goals as goal

abbrev the_attempt : Counted → Attempt
the_attempt p = p.attempt

pub may_go_on-requires-clause-valid : goal.may_go_on-requires-clause-valid
may_go_on-requires-clause-valid c = subst (IsValid c.args.plan.now) (ap the_attempt (sym c.self.view_is)) c.requires.plan

pub invariant_of-self : goal.invariant_of-self
invariant_of-self c =
    let it =
    ran c.args.plan.now c.may_go_on.ensures.lawful c.args.marker c.run-made.result c.self.inside.attempt c.run-made.new.attempt c.args.words.now
    c.run-made.new.words _ (ap the_attempt c.self.view_is) c.requires.plan c.run-made.ensures.steps in
    record {
      attempt = is_attempt c.args.plan.now c.may_go_on.ensures.lawful (attempt_at c.run-made.new.attempt) it.valid c.effects_are.ensures;
      valid_point = c.run-made.ensures.valid.point;
    }

pub returns : goal.returns
returns c =
    let it =
    ran c.args.plan.now c.may_go_on.ensures.lawful c.args.marker c.run-made.result c.self.inside.attempt c.run-made.new.attempt c.args.words.now
    c.run-made.new.words _ (ap the_attempt c.self.view_is) c.requires.plan c.run-made.ensures.steps in
    record {
      runs = record {
        fits = c.run-made.ensures.most;
        steps =
            subst (λ (p : Counted). LeadsTo (office c.args.plan.now) c.args.marker c.run-made.result (record { attempt = p.attempt; words = c.args.words.now })
            (record { attempt = attempt_at c.run-made.new.attempt; words = c.run-made.new.words })) c.self.view_is it.steps;
        count = c.run-made.ensures.count ∙ ap (λ (p : Counted). counted_by c.run-made.result p.count) c.self.view_is;
        valid = it.valid;
      };
      far =
          subst (λ (p : Counted). RunsFarEnough (office c.args.plan.now).lock_word c.run-made.new.words c.args.most c.run-made.result p.attempt.phase
          c.run-made.new.attempt.phase) c.self.view_is c.run-made.ensures.far;
    }
