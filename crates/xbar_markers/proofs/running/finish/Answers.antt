use Rattle.std.proofs.Common.{◌∙◌, ap, flat_map, subst, sum_by, sym}
use Rattle.{std.proofs.lemmas.Result.IfOk-weaker, fair_queue.specs.{Items.SameItems, Tickets.TicketView}}
use Rattle.xbar_markers.{specs.{Calls.records_of, ThreadStates.desks_at, declared.call.Call.Call}, proofs.WholeRuns.{whole_served, whole_worked}}
use Rattle.xbar_markers.proofs.running.finish.Goals as goal

pub complete_rest-requires-clause-kept : goal.complete_rest-requires-clause-kept
complete_rest-requires-clause-kept g c =
    (c.in_ok-dial_left.ensures.served c.requires.share.0 c.requires.share.1).kept

pub returns-clause-desks : goal.returns-clause-desks
returns-clause-desks g c =
    let whole = c.complete_rest.new.whole in
    let left = c.in_ok-dial_left.ensures in
    let rest = c.in_ok-complete_rest.ensures in
    let gone = subst (λ (t : TicketView Call). SameItems t.put t.taken) (sym rest.calls) left.gone in
    let value = c.replace.ensures.value in
    IfOk-weaker c.in_turn_order.result (λ records. SameItems (flat_map records_of c.replace.result.items) records.items) _
    (λ records are befores share.
    whole_worked whole rest.none gone rest.gone befores (desks_at c.complete_rest.new.workers.items)
    (rest.served befores (left.served befores share)) records.items
    (λ h. sym (ap (λ (v : _). sum_by h (flat_map records_of v.items)) value) ∙ are h)) c.in_turn_order.ensures.records

pub returns-clause-served : goal.returns-clause-served
returns-clause-served g c =
    let whole = c.complete_rest.new.whole in
    let left = c.in_ok-dial_left.ensures in
    let rest = c.in_ok-complete_rest.ensures in
    let gone = subst (λ (t : TicketView Call). SameItems t.put t.taken) (sym rest.calls) left.gone in
    let put = ap (λ (t : TicketView Call). t.put) rest.calls ∙ left.tickets.calls_put in
    let value = c.replace.ensures.value in
    IfOk-weaker c.in_turn_order.result (λ records. SameItems (flat_map records_of c.replace.result.items) records.items) _
    (λ records are befores share.
    whole_served whole rest.none gone rest.gone befores (desks_at c.complete_rest.new.workers.items)
    (rest.served befores (left.served befores share)) records.items
    (λ h. sym (ap (λ (v : _). sum_by h (flat_map records_of v.items)) value) ∙ are h) c.args.whole.now.calls.put put) c.in_turn_order.ensures.records
