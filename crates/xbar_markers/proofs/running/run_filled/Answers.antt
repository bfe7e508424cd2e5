use Rattle.std.proofs.Common.{List, subst, sym}
use Rattle.{xbar_fabric.specs.Views.DeskView, xbar_markers.specs.{Calls.AreServed, ThreadStates.desks_at, Work.{AreShort, HaveWorked}, declared.call.Call.Call}}
use Rattle.xbar_markers.proofs.running.run_filled.Goals as goal

pub finish-requires-clause-share : goal.finish-requires-clause-share
finish-requires-clause-share g c = (c.args.desks.items, c.in_ok-workers.ensures.share)

pub returns-clause-desks : goal.returns-clause-desks
returns-clause-desks g c =
    let befores = c.args.desks.items in
    subst (λ (desks : List DeskView). HaveWorked befores desks c.in_ok-records.records.items) (sym c.in_ok-desks_of.ensures)
    (c.in_ok-records.ensures.desks befores c.in_ok-workers.ensures.share)

pub returns-clause-served : goal.returns-clause-served
returns-clause-served g c =
    let records = c.in_ok-records.records.items in
    let served = c.in_ok-records.ensures.served c.args.desks.items c.in_ok-workers.ensures.share in
    subst (λ (desks : List DeskView). AreServed (AreShort desks) c.args.whole.calls.put records) (sym c.in_ok-desks_of.ensures)
    (subst (λ (calls : List Call). AreServed (AreShort (desks_at c.finish.new.workers.items)) calls records) c.in_ok-workers.ensures.put served)
