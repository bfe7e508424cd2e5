use Rattle.std.proofs.Common.{◌+◌, ap, subst, sym, ◌∙◌, arith, None, Some}
use Rattle.{desks.specs.Views.IsDeskOf, turns.specs.System.system_of, workers.specs.Tries.denies}
use Rattle.workers.proofs.{Logs.finished_more, Freely.freely_both, Trying.{denied_by, freely_more}}
use Rattle.desks.specs.declared.progress.Progress.TheVariants as progress
use Rattle.workers.proofs.driving.finish_or_be_denied.Goals as goal

pub returns-then-denies-clause-missed : goal.returns-then-denies-clause-missed
returns-then-denies-clause-missed g c = λ busy.
    let setting = c.args.setting.now in
    let desk = c.loop.desk in
    let after = c.advance.new.self in
    let laws = c.steps_are_lawful_moves.ensures in
    denied_by (system_of (g.F.Jobs.system setting)) c.args.patience c.loop.invariant.gone_on.0 c.args.desk.now desk after c.lock_to_acquire-lock.result
    c.lock_to_acquire-lock.ensures c.loop.invariant.gone_on.2 c.in-Moved.answer
    (record { same = c.advance.ensures.same; advanced = c.in-Moved.ensures.advanced }) (sym c.denies.ensures ∙ c.if-denies.true)
    (λ holder. laws.held setting desk.number holder desk.actor after.actor desk.seen after.seen)
    (λ other. laws.preferred setting desk.number other desk.actor after.actor desk.seen after.seen)

pub returns-in-Finished-clause-finished : goal.returns-in-Finished-clause-finished
returns-in-Finished-clause-finished g c =
    let setting = c.args.setting.now in
    let laws = c.desks_report_their_records.ensures in
    let reports = c.reports_are_of_assigned_jobs.ensures in
    let desk = c.loop.desk in
    let after = c.advance.new.self in
    let reported = c.in-Finished.reported in
    let came = c.in-Finished.ensures.advanced in
    finished_more (system_of (g.F.Jobs.system setting)) c.args.desk.now desk after (Some reported) (laws.both setting) c.loop.invariant.finished
    (record {
      number = ap (λ d. d.number) c.advance.ensures.same;
      worked = laws.advanced setting desk.number desk.actor after.actor desk.seen after.seen (progress.Finished reported) came;
      job = reports.stepped setting desk.number desk.actor after.actor desk.seen after.seen came.0 came.1;
      its_job = reports.reported setting desk.number desk.actor after.actor desk.seen after.seen reported came;
    })

pub returns-in-Some-clause-finished : goal.returns-in-Some-clause-finished
returns-in-Some-clause-finished g c =
    let setting = c.args.setting.now in
    let O = system_of (g.F.Jobs.system setting) in
    let laws = c.desks_report_their_records.ensures in
    let desk = c.loop.desk in
    let between = c.advance.new.self in
    let came = c.in-Moved.ensures.advanced in
    let answer = c.in-Moved.answer in
    finished_more O c.args.desk.now between c.run_on.new.desk (Some c.in-Some.reported) (laws.both setting)
    (finished_more O c.args.desk.now desk between None (laws.both setting) c.loop.invariant.finished
    (record {
      number = ap (λ d. d.number) c.advance.ensures.same;
      worked = laws.advanced setting desk.number desk.actor between.actor desk.seen between.seen (progress.Moved answer) came;
      job = c.reports_are_of_assigned_jobs.ensures.stepped setting desk.number desk.actor between.actor desk.seen between.seen answer came.0;
      its_job = tt;
    }))
    (c.in-Some.ensures.finished came.1)

pub loop-preserved : goal.loop-preserved
loop-preserved g c =
    let setting = c.args.setting.now in
    let O = system_of (g.F.Jobs.system setting) in
    let laws = c.desks_report_their_records.ensures in
    let desk = c.loop.desk in
    let between = c.advance.new.self in
    let after = c.run_on.new.desk in
    let before = c.loop.invariant in
    let came = c.in-Moved.ensures.advanced in
    let answer = c.in-Moved.answer in
    let more = c.in_default.ensures.goes_on came.1 in
    let both = freely_both O (before.gone_on.0 + 1) more.1.0 c.args.desk.now between after
    (freely_more O before.gone_on.0 c.args.desk.now desk between answer before.gone_on.2 (record { same = c.advance.ensures.same; advanced = came })
    (sym c.denies.ensures ∙ c.if-denies.false))
    more.1.1 in
    record {
      desk = c.run_on.ensures.desk;
      finished = finished_more O c.args.desk.now between after None (laws.both setting)
          (finished_more O c.args.desk.now desk between None (laws.both setting) before.finished
          (record {
            number = ap (λ d. d.number) c.advance.ensures.same;
            worked = laws.advanced setting desk.number desk.actor between.actor desk.seen between.seen (progress.Moved answer) came;
            job = c.reports_are_of_assigned_jobs.ensures.stepped setting desk.number desk.actor between.actor desk.seen between.seen answer came.0;
            its_job = tt;
          }))
          (c.in_default.ensures.finished came.1);
      gone_on = (both.0, omega (arith, before.gone_on.1, both.1), both.2);
      busy = λ busy. more.0;
    }

pub loop-preserved-in-Moved-Asked : goal.loop-preserved-in-Moved-Asked
loop-preserved-in-Moved-Asked g c =
    let setting = c.args.setting.now in
    let O = system_of (g.F.Jobs.system setting) in
    let desk = c.loop.desk in
    let after = c.advance.new.self in
    let before = c.loop.invariant in
    let came = c.in-Moved-Asked.ensures.advanced in
    let answer = c.in-Moved-Asked.field-0 in
    record {
      desk =
          subst (λ d. IsDeskOf d c.args.room.now setting) (sym c.advance.ensures.same)
          (record { table_is = before.desk.table_is; desk_is = before.desk.desk_is; room_is = before.desk.room_is });
      finished = finished_more O c.args.desk.now desk after None (c.desks_report_their_records.ensures.both setting) before.finished
          (record {
            number = ap (λ d. d.number) c.advance.ensures.same;
            worked = c.desks_report_their_records.ensures.advanced setting desk.number desk.actor after.actor desk.seen after.seen (progress.Moved answer) came;
            job = c.reports_are_of_assigned_jobs.ensures.stepped setting desk.number desk.actor after.actor desk.seen after.seen answer came.0;
            its_job = tt;
          });
      gone_on = (
        before.gone_on.0 + 1,
        omega (arith, before.gone_on.1),
        freely_more O before.gone_on.0 c.args.desk.now desk after answer before.gone_on.2 (record { same = c.advance.ensures.same; advanced = came })
            (ap denies c.in-Moved-Asked.field-0-is),
      );
      busy = λ busy. came.1;
    }
