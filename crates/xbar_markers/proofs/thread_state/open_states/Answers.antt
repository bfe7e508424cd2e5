use Rattle.std.proofs.Common.{◌≡◌, ◌+◌, [], ◌∷◌, ◌++◌, length, map, subst, sym, ap, ◌∙◌, append_assoc, length-append}
use Rattle.{std.proofs.lemmas.List.{map-append, Elements.{All-head, All-push, All-tail}}, fair_queue.specs.Tickets.{new_ticket, with_fewer_parts}}
use Rattle.{xbar_fabric.specs.Views.DeskView, xbar_markers.specs.{ThreadStates.{IsThreadState, desk_at, ThreadState}, Work.IsReady}}
use Rattle.xbar_markers.proofs.{Gates.{first_for, others_for}, Joined.first_share, ThreadStates.{both_shorter, fewer_again, new_seat, seats_and_one}}
use Rattle.xbar_markers.proofs.thread_state.open_states.Goals as goal

pub new-gate-requires : goal.new-gate-requires
new-gate-requires g c =
    let inv = c.loop-desk.invariant in
    let desk = c.in-Some.desk in
    subst (g.G.Gate.IsAt c.in-Some-next.gate) (sym c.marker.ensures.marker)
    (first_for g.G.Gate.IsAt c.loop-desk.gates.rest.items c.next-in-loop-desk.new.self.rest.items c.loop-desk.desk-iterator.rest.items
    c.next.new.self.rest.items c.in-Some-next.gate desk
    c.in-Some-next.ensures.items c.in-Some.ensures.steps.0 inv.for_desks)

pub loop-desk-preserved : goal.loop-desk-preserved
loop-desk-preserved g c =
    let inv = c.loop-desk.invariant in
    let given = c.in-Some.ensures.steps.0 in
    let desk = c.in-Some.desk in
    let seen = c.loop-desk.yielded in
    let rest = c.next.new.self.rest.items in
    let Ready = λ (d : DeskView). IsReady d c.args.fabric.now in
    let Here = λ (s : ThreadState DeskView g.row.G.Denot).
    IsThreadState (desk_at s).kind c.args.fabric.now c.args.queues.now s in
    let left = rw given at inv.ready in
    let ready = All-head Ready desk rest left in
    let whole = c.args.whole.now in
    let cut = c.cut-share.ensures in
    let share = c.cut-share.result in
    let calls = cut.cut_calls ∙ ap (λ t. new_ticket t.queue) inv.calls in
    let tasks = cut.cut_tasks ∙ ap (λ t. new_ticket t.queue) inv.tasks in
    let states = c.loop-desk.states.items in
    let state : ThreadState DeskView g.row.G.Denot =
    record {
      worker = record { desk = desk; gate = c.new-gate.result };
      share = share;
    } in
    let pushed = c.in_ok-put_behind.ensures in
    let one_more : length seen + 1 ≡ length (seen ++ desk ∷ []) =
    sym (length-append seen (desk ∷ [])) in
    record {
      whole = append_assoc seen (desk ∷ []) rest ∙ (ap (λ l. seen ++ l) (sym given) ∙ inv.whole);
      gates_left =
          both_shorter c.loop-desk.desk-iterator.rest.items rest c.loop-desk.gates.rest.items
          c.next-in-loop-desk.new.self.rest.items desk c.in-Some-next.gate given
          c.in-Some-next.ensures.items inv.gates_left;
      for_desks =
          others_for g.G.Gate.IsAt c.loop-desk.gates.rest.items
          c.next-in-loop-desk.new.self.rest.items c.loop-desk.desk-iterator.rest.items rest
          c.in-Some-next.gate desk c.in-Some-next.ensures.items given inv.for_desks;
      calls =
          cut.calls
          ∙ (ap (λ t. with_fewer_parts t 1) inv.calls
          ∙ (fewer_again whole.calls (length seen) ∙ ap (with_fewer_parts whole.calls) one_more));
      tasks =
          cut.tasks
          ∙ (ap (λ t. with_fewer_parts t 1) inv.tasks
          ∙ (fewer_again whole.tasks (length seen) ∙ ap (with_fewer_parts whole.tasks) one_more));
      lists = (cut.lists.0 ∙ inv.lists.0, cut.lists.1 ∙ inv.lists.1);
      ready = All-tail Ready desk rest left;
      desks =
          ap (λ l. map desk_at l) pushed
          ∙ (map-append desk_at states (state ∷ []) ∙ ap (λ l. l ++ desk ∷ []) inv.desks);
      states =
          rw pushed
          (All-push Here states state inv.states
          (new_seat c.args.fabric.now c.args.queues.now whole state ready c.requires.may calls
          tasks));
      none =
          rw pushed
          (seats_and_one seen states desk state inv.none
          (first_share desk share whole.calls.queue whole.tasks.queue ready.idle calls tasks
          cut.none.0 cut.none.1));
    }
