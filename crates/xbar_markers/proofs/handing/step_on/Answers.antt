use Rattle.std.proofs.Common.{ap}
use Rattle.{xbar_fabric.specs.Views.DeskView, xbar_markers.proofs.{HandedJobs.{busy_on, done_or}, JobsInHand.{advanced_on, one_step}}}
use Rattle.xbar_markers.proofs.handing.step_on.Goals as goal

pub returns-clause-done : goal.returns-clause-done
returns-clause-done c = λ start number job doing.
    let keeps = c.reports_are_of_assigned_jobs.ensures in
    let desk = c.args.desk.now in
    let after = c.make_step-ended.new.desk in
    let step = c.make_step-ended.ensures in
    let now = advanced_on number job start c.desks_report_their_records.ensures.stepped keeps.job desk after step.event doing step.advanced in
    done_or number job start desk after c.make_step-ended.result now step (keeps.reported desk after)
    (λ r mine_is. c.next_records_have_later_turns.ensures.later start after r
    (ap (λ (d : DeskView). d.marker) now.same) now.seen mine_is c.marker-marker.ensures.history)

pub returns-clause-made : goal.returns-clause-made
returns-clause-made c = λ busy.
    let step = c.make_step-ended.ensures in
    one_step c.args.desk.now c.make_step-ended.new.desk step.event busy step.advanced

pub returns-clause-busy : goal.returns-clause-busy
returns-clause-busy c = λ busy none. busy_on c.args.desk.now c.make_step-ended.new.desk c.make_step-ended.result busy c.make_step-ended.ensures none
