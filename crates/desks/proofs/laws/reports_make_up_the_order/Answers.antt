use Rattle.{turns.specs.System.system_of, desks.proofs.AllReported.{are_told, each_told, still_untold, told_stands}}
use Rattle.desks.proofs.laws.reports_make_up_the_order.Goals as goal

pub returns-clause-closed : goal.returns-clause-closed
returns-clause-closed g c setting table desks logs words idle have closed =
    are_told (system_of (g.F.Jobs.system setting)) _ table setting desks logs words idle have closed

pub returns-clause-shut : goal.returns-clause-shut
returns-clause-shut g c setting desks logs words have shut =
    still_untold (system_of (g.F.Jobs.system setting)) _ desks logs words have shut

pub returns-clause-ordered : goal.returns-clause-ordered
returns-clause-ordered g c setting logs order log i r reported there within =
    told_stands (system_of (g.F.Jobs.system setting)) logs order i log r reported there within

pub returns-clause-logged : goal.returns-clause-logged
returns-clause-logged g c setting logs order r reported within =
    each_told (system_of (g.F.Jobs.system setting)) logs order r reported within
