use Rattle.std.proofs.Common.{ap, ◌∙◌, Some, None}
use Rattle.{turns.specs.System.system_of, workers.proofs.{Logs.finished_more, Trying.{gone_more, idle_still}}}
use Rattle.desks.specs.declared.progress.Progress.TheVariants as progress
use Rattle.workers.proofs.driving.finish.Goals as goal

pub returns-in-Finished-clause-finished : goal.returns-in-Finished-clause-finished
returns-in-Finished-clause-finished g c =
    let setting = c.args.setting.now in
    let laws = c.desks_report_their_records.ensures in
    let reports = c.reports_are_of_assigned_jobs.ensures in
    let desk = c.loop.desk in
    let after = c.advance.new.self in
    let reported = c.in-Finished.reported in
    let came = c.in-Finished.ensures.advanced in
    finished_more (system_of (g.F.Jobs.system setting)) c.args.desk.now desk after (Some reported) (laws.both setting) c.loop.invariant.finished
    (record {
      number = ap (λ d. d.number) c.advance.ensures.same;
      worked = laws.advanced setting desk.number desk.actor after.actor desk.seen after.seen (progress.Finished reported) came;
      job = reports.stepped setting desk.number desk.actor after.actor desk.seen after.seen came.0 came.1;
      its_job = reports.reported setting desk.number desk.actor after.actor desk.seen after.seen reported came;
    })

pub loop-preserved : goal.loop-preserved
loop-preserved g c =
    let setting = c.args.setting.now in
    let laws = c.desks_report_their_records.ensures in
    let desk = c.loop.desk in
    let after = c.advance.new.self in
    let same = c.advance.ensures.same in
    let before = c.loop.invariant in
    let came = c.in-Moved.ensures.advanced in
    record {
      desk = record {
        table_is = ap (λ d. d.table) same ∙ before.desk.table_is;
        desk_is = ap (λ d. d.setting) same ∙ before.desk.desk_is;
        room_is = before.desk.room_is;
      };
      finished = finished_more (system_of (g.F.Jobs.system setting)) c.args.desk.now desk after None (laws.both setting) before.finished
          (record {
            number = ap (λ d. d.number) same;
            worked = laws.advanced setting desk.number desk.actor after.actor desk.seen after.seen (progress.Moved c.in-Moved.field-0) came;
            job = c.reports_are_of_assigned_jobs.ensures.stepped setting desk.number desk.actor after.actor desk.seen after.seen c.in-Moved.field-0 came.0;
            its_job = tt;
          });
      gone_on =
          gone_more (system_of (g.F.Jobs.system setting)) c.loop.counter c.args.desk.now desk after c.in-Moved.field-0 before.gone_on
          (record { same = same; advanced = came });
    }

pub returns-in-Finished-clause-made : goal.returns-in-Finished-clause-made
returns-in-Finished-clause-made g c = (
  c.loop.counter,
  c.loop-test.true,
  c.loop.desk,
  c.loop.invariant.gone_on,
  record { same = c.advance.ensures.same; advanced = c.in-Finished.ensures.advanced },
)

pub returns-in-Idle-clause-made : goal.returns-in-Idle-clause-made
returns-in-Idle-clause-made g c =
    idle_still (system_of (g.F.Jobs.system c.args.setting.now)) c.loop.counter c.args.most c.args.desk.now c.loop.desk c.advance.new.self
    c.loop.invariant.gone_on (record { same = c.advance.ensures.same; advanced = c.in-Idle.ensures.advanced })
