use Rattle.std.proofs.Common.{map, sym, subst}
use Rattle.{desks.specs.Reports.HaveLogs, turns.specs.System.system_of, workers.specs.Workers.{HaveShut, records}}
use Rattle.workers.proofs.shutting.shut_if_idle.Goals as goal

pub returns-in-Ok-idle_desks-clause-shut : goal.returns-in-Ok-idle_desks-clause-shut
returns-in-Ok-idle_desks-clause-shut g c =
    let setting = c.args.setting.now in
    let O = system_of (g.F.Jobs.system setting) in
    let desks = c.in-Ok-idle_desks.desks.items in
    let words = c.shut_all_into.result.items in
    let logs = map (λ shift. records shift.log.items) c.args.shifts.items in
    let same = c.in-Ok-idle_desks.ensures.desks in
    let have = subst (λ d. HaveLogs O d logs) (sym same) c.requires.logs in
    let made =
    c.reports_make_up_the_order.ensures.closed setting c.args.room.table desks logs words c.in-Ok-idle_desks.ensures.idle have c.shut_all_into.ensures in
    subst (λ d. HaveShut O d logs words) same (record { closed = c.shut_all_into.ensures; made_up = made })
