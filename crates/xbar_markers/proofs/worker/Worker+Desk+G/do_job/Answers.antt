use Rattle.std.proofs.Common.{ℕ, sym, ap, subst, ◌∙◌, Option}
use Rattle.{xbar_moves.specs.Exchange.is_idle, xbar_fabric.specs.Views.DeskView, xbar_markers.specs.Work.{HasPassed, assigned_to}}
use Rattle.xbar_markers.proofs.{JobsInHand.{assigned_now, has_done, mine_at_end}, Passing.{none_passed, passed_both}}
use Rattle.xbar_markers.proofs.worker.Worker+Desk+G.do_job.Goals as goal

pub loop-init : goal.loop-init
loop-init g c =
    let start = c.args.self.now.desk in
    let begun = c.in-Ok.ensures.1 in
    record {
      doing = assigned_now c.args.job_no c.args.job start c.assign.new.self begun;
      busy = ap (λ (d : DeskView). is_idle d.work) begun;
      passed = none_passed (assigned_to start c.args.job_no c.args.job) c.assign.new.self c.args.self.now.gate begun;
    }

pub returns-then-is_idle-clause-done : goal.returns-then-is_idle-clause-done
returns-then-is_idle-clause-done g c =
    let start = c.args.self.now.desk in
    let after = c.go_on-answer.new.self.desk in
    let r = c.in-Some-record.record in
    let doing = c.go_on-answer.ensures.doing start c.args.job_no c.args.job c.loop.invariant.doing in
    let ended = sym c.in-Some-record.ensures in
    has_done c.args.job_no c.args.job start after r doing (sym c.is_idle.ensures ∙ c.if-is_idle.true) ended
    (c.next_records_have_later_turns.ensures.later start after r
    (ap (λ (d : DeskView). d.marker) doing.same) doing.seen
    (mine_at_end c.args.job_no c.args.job start after r doing ended) c.marker-marker.ensures.history)

pub returns-then-is_idle-clause-passed : goal.returns-then-is_idle-clause-passed
returns-then-is_idle-clause-passed g c =
    let start = assigned_to c.args.self.now.desk c.args.job_no c.args.job in
    let after = c.go_on-answer.new.self.desk in
    let was : Option ℕ = c.args.self.now.gate in
    subst (λ (passed : Option ℕ). HasPassed (assigned_to c.args.self.now.desk c.args.job_no c.args.job) c.go_on-answer.new.self.desk c.args.self.now.gate
    passed) (sym c.finish.ensures)
    (passed_both start c.loop.self.desk after was c.loop.self.gate c.go_on-answer.new.self.gate c.loop.invariant.passed c.go_on-answer.ensures.passed)

pub loop-preserved : goal.loop-preserved
loop-preserved g c =
    let start = c.args.self.now.desk in
    let inv = c.loop.invariant in
    let on = c.go_on-answer.ensures in
    record {
      doing = on.doing start c.args.job_no c.args.job inv.doing;
      busy = sym c.is_idle.ensures ∙ c.if-is_idle.false;
      passed =
          passed_both (assigned_to start c.args.job_no c.args.job) c.loop.self.desk c.go_on-answer.new.self.desk c.args.self.now.gate c.loop.self.gate
          c.go_on-answer.new.self.gate inv.passed on.passed;
    }

pub loop-preserved-then-is_refusal : goal.loop-preserved-then-is_refusal
loop-preserved-then-is_refusal g c =
    let start = c.args.self.now.desk in
    let inv = c.loop.invariant in
    let on = c.go_on-answer.ensures in
    record {
      doing = on.doing start c.args.job_no c.args.job inv.doing;
      busy = sym c.is_idle.ensures ∙ c.if-is_idle.false;
      passed =
          passed_both (assigned_to start c.args.job_no c.args.job) c.loop.self.desk c.go_on-answer.new.self.desk c.args.self.now.gate c.loop.self.gate
          c.go_on-answer.new.self.gate inv.passed on.passed;
    }
