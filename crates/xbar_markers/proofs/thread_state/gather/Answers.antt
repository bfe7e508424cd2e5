use Rattle.std.proofs.Common.{[], ◌∷◌, ◌++◌, arith, map, refl, sym, ap, ◌∙◌, append-nil, append_assoc, length-append}
use Rattle.{std.proofs.lemmas.List.{map-append, Elements.{All-head, All-same, All-tail}}, xbar_fabric.specs.Views.DeskView}
use Rattle.xbar_markers.{specs.ThreadStates.{IsThreadState, ThreadState}, proofs.{Joined.IsJoined, ThreadStates.{joined_may, none_joined, seat_joined}}}
use Rattle.xbar_markers.proofs.thread_state.gather.Goals as goal

pub loop-state-init : goal.loop-state-init
loop-state-init g c =
    let Here = IsThreadState {G = g.row.G.Denot} c.requires.states.0 c.args._fabric.now c.args.queues.now in
    let all = c.into_iter-state-iterator.ensures.into_iter_gives.0 in
    record {
      whole = all;
      left = (c.requires.states.0, All-same Here _ c.args.states.items all c.requires.states.1);
      may = c.requires.may;
      calls = omega arith;
      tasks = omega arith;
      put = refl;
      workers = sym (append-nil _);
      shares = λ befores desks others share are.
          none_joined g.row.G.Denot befores desks others c.args.whole.now share are;
    }

pub join-requires-clause-other : goal.join-requires-clause-other
join-requires-clause-other g c =
    let inv = c.loop-state.invariant in
    let Here = IsThreadState {G = g.row.G.Denot} inv.left.0 c.args._fabric.now c.args.queues.now in
    let left = rw c.in-Some.ensures.steps.0 at inv.left.1 in
    (All-head Here c.in-Some.state c.next.new.self.rest.items left).may

pub loop-state-preserved : goal.loop-state-preserved
loop-state-preserved g c =
    let inv = c.loop-state.invariant in
    let given = c.in-Some.ensures.steps.0 in
    let state = c.in-Some.state in
    let seen = c.loop-state.yielded in
    let rest = c.next.new.self.rest.items in
    let Here = IsThreadState {G = g.row.G.Denot} inv.left.0 c.args._fabric.now c.args.queues.now in
    let left = rw given at inv.left.1 in
    let here = All-head Here state rest left in
    let one_more = length-append seen (state ∷ []) in
    let both = c.in_ok-join.ensures in
    let joined : IsJoined c.loop-state.whole state.share c.join.new.self =
    record { calls = both.calls; tasks = both.tasks; kept = both.kept; ended = both.ended } in
    let workers = map (λ (s : ThreadState DeskView g.row.G.Denot). s.worker) seen in
    record {
      whole = append_assoc seen (state ∷ []) rest ∙ (ap (λ l. seen ++ l) (sym given) ∙ inv.whole);
      left = (inv.left.0, All-tail Here state rest left);
      may =
          joined_may c.args.queues.now c.loop-state.whole state.share c.join.new.self joined inv.may;
      calls =
          (let parts = ap (λ t. t.parts) both.calls in
          let one = here.calls_parts in
          omega arith);
      tasks =
          (let parts = ap (λ t. t.parts) both.tasks in
          let one = here.tasks_parts in
          omega arith);
      put =
          ap (λ t. t.put) both.calls
          ∙ (ap (λ l. c.loop-state.whole.calls.put ++ l) here.calls_put
          ∙ (append-nil c.loop-state.whole.calls.put ∙ inv.put));
      workers =
          c.in_ok-put_behind.ensures
          ∙ (ap (λ l. l ++ state.worker ∷ []) inv.workers
          ∙ (append_assoc c.args.workers.now.items workers (state.worker ∷ [])
          ∙ ap (λ l. c.args.workers.now.items ++ l)
          (sym (map-append (λ (s : ThreadState DeskView g.row.G.Denot). s.worker) seen (state ∷ [])))));
      shares = λ befores desks others share are.
          seat_joined befores desks others seen state c.loop-state.whole c.join.new.self joined
          (λ known known_are. inv.shares befores desks known share known_are) are;
    }
