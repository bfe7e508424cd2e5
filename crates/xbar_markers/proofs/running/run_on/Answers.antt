use Rattle.std.proofs.Common.{List, ap, subst}
use Rattle.{std.proofs.lemmas.Result.IfOk-weaker, fair_queue.specs.Tickets.TicketView}
use Rattle.xbar_markers.specs.{Calls.AreServed, Work.AreShort, declared.call.Call.Call}
use Rattle.xbar_markers.proofs.running.run_on.Goals as goal

pub returns-clause-served : goal.returns-clause-served
returns-clause-served g c =
    let put = ap (λ (t : TicketView Call). t.put) c.fill.ensures.calls_are in
    IfOk-weaker c.run_filled.result _ _
    (λ ran served. subst (λ (calls : List Call). AreServed (AreShort ran.0.items) calls ran.1.items) put served) c.run_filled.ensures.served
