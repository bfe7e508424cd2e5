use Rattle.std.proofs.Common.{ap, refl, None}
use Rattle.{turns.specs.System.system_of, workers.proofs.{Logs.finished_more, Trying.gave_back}}
use Rattle.workers.proofs.driving.try_once.Goals as goal

pub returns-clause-tried : goal.returns-clause-tried
returns-clause-tried g c = λ busy.
    let setting = c.args.setting.now in
    let O = system_of (g.F.Jobs.system setting) in
    let desk = c.finish_or_be_denied.new.desk in
    let after = c.give_back.new.self in
    let back = c.give_back.ensures.given_back in
    let same = c.give_back.ensures.same in
    record {
      finished = finished_more O c.args.desk.now desk after None (c.desks_report_their_records.ensures.both setting) c.in-Err.ensures.finished
          (record {
            number = ap (λ d. d.number) same;
            worked = c.desks_report_their_records.ensures.given_back setting desk.number desk.actor after.actor desk.seen after.seen back;
            job = c.reports_are_of_assigned_jobs.ensures.given_back setting desk.number desk.actor after.actor desk.seen after.seen back;
            its_job = tt;
          });
      beginning = gave_back O desk.number desk.actor after.actor desk.seen after.seen (c.in-Err.ensures.busy busy) (c.if-is_operating.ensures.done refl) back;
      between = desk;
      missed = c.in-Err.ensures.missed busy;
      back = back;
    }
