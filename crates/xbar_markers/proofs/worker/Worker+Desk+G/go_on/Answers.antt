use Rattle.std.proofs.Common.{ℕ, zero, suc, ◌+◌, refl, ap, ◌∙◌}
use Rattle.{desks.specs.Watching.watched_more, xbar_markers.proofs.JobsInHand.{advanced_on, ended_after, one_step, run_made, runs_on, steps_both, watched_both}}
use Rattle.xbar_markers.proofs.worker.Worker+Desk+G.go_on.Goals as goal

pub returns-then-not-matches-clause-doing : goal.returns-then-not-matches-clause-doing
returns-then-not-matches-clause-doing g c start number job doing =
    let reports = c.desks_report_their_records.ensures in
    let keeps = c.reports_are_of_assigned_jobs.ensures in
    let desk = c.args.self.now.desk in
    let between = c.step-answer.new.self in
    let after = c.run-made.new.self in
    let step = c.step-answer.ensures.answered in
    runs_on number job start reports.stepped keeps.job c.run-made.result between after
    (advanced_on number job start reports.stepped keeps.job desk between step.event doing step.advanced)
    (run_made c.run-made.result between after c.run-made.ensures.run)

pub returns-then-not-matches-clause-passed : goal.returns-then-not-matches-clause-passed
returns-then-not-matches-clause-passed g c =
    let desk = c.args.self.now.desk in
    let between = c.step-answer.new.self in
    let after = c.run-made.new.self in
    let step = c.step-answer.ensures.answered in
    let made : ℕ = c.run-made.result in
    record {
      count = suc zero + made;
      made = steps_both (suc zero) made desk between after (one_step desk between step.event c.requires.busy step.advanced)
          (run_made made between after c.run-made.ensures.run);
      passed_is = c.run-made.ensures.reported ∙ ap (watched_more made) c.before_step.ensures ∙ watched_both (suc zero) made c.args.self.now.gate;
    }

pub returns-then-not-matches-clause-ended : goal.returns-then-not-matches-clause-ended
returns-then-not-matches-clause-ended g c =
    let between = c.step-answer.new.self in
    let after = c.run-made.new.self in
    let step = c.step-answer.ensures.answered in
    let made : ℕ = c.run-made.result in
    ended_after c.reports_are_of_assigned_jobs.ensures.reported c.args.self.now.desk between after step.event c.requires.busy step.advanced made
    (run_made made between after c.run-made.ensures.run)

pub returns-else-not-matches-clause-doing : goal.returns-else-not-matches-clause-doing
returns-else-not-matches-clause-doing g c start number job doing =
    let step = c.step-answer.ensures.answered in
    advanced_on number job start c.desks_report_their_records.ensures.stepped c.reports_are_of_assigned_jobs.ensures.job
    c.args.self.now.desk c.step-answer.new.self step.event doing step.advanced

pub returns-else-not-matches-clause-passed : goal.returns-else-not-matches-clause-passed
returns-else-not-matches-clause-passed g c =
    let step = c.step-answer.ensures.answered in
    record {
      count = suc zero;
      made = one_step c.args.self.now.desk c.step-answer.new.self step.event c.requires.busy step.advanced;
      passed_is = c.before_step.ensures;
    }

pub returns-else-not-matches-clause-ended : goal.returns-else-not-matches-clause-ended
returns-else-not-matches-clause-ended g c =
    let step = c.step-answer.ensures.answered in
    let after = c.step-answer.new.self in
    ended_after c.reports_are_of_assigned_jobs.ensures.reported c.args.self.now.desk after after step.event c.requires.busy step.advanced zero refl
