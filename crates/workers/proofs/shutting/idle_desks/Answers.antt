use Rattle.workers.proofs.Shifts.{all_idle}
use Rattle.workers.proofs.shutting.idle_desks.Goals as goal

pub returns-clause-idle : goal.returns-clause-idle
returns-clause-idle g c =
    all_idle g.F.Jobs.system (λ shift. shift.desk) c.args._room.now c.args._setting.now c.args.shifts.items c.desks_of.result.items c.desks_of.ensures
    c.requires.work cc

pub returns-clause-ok : goal.returns-clause-ok
returns-clause-ok g c = cc
