use Rattle.std.proofs.Common.{◌≡◌, ℕ, ◌++◌, List, arith, map, length, take, drop, sym, ap, ◌∙◌, subst, length-take}
use Rattle.{std.proofs.lemmas.List.Elements.All-same, xbar_moves.specs.declared.kinds.Kind.TheVariants.{Completing, Dial}, xbar_fabric.specs.Views.DeskView}
use Rattle.xbar_markers.specs.{ThreadStates.{IsThreadState, IsThere, ThreadState}, declared.worker.Worker.Worker}
use Rattle.xbar_markers.proofs.DeskRuns.{all_gathered, completers, diallers, first_count, last_count, nobodys_after, there_first, there_next}
use Rattle.xbar_markers.proofs.running.work_all.Goals as goal

pub split_off-requires : goal.split_off-requires
split_off-requires g c =
    let by_kind = c.requires.desks in
    let hired = c.in_ok-dialling.ensures in
    let states = c.in_ok-dialling.dialling.items in
    let count =
    c.count_dialling-dialling_count.ensures by_kind.dialling by_kind.completing
    (ap (map (λ (d : DeskView). d.kind)) c.as_slice.ensures.value ∙ by_kind.kinds) in
    let its =
    first_count by_kind.dialling by_kind.completing c.args.fabric.now c.args.queues.now c.args.desks.items states by_kind.kinds hired.desks hired.states in
    omega (arith, count, its, length-take by_kind.dialling states, c.in_ok-dialling.dialling.ok.0)

pub run_stages-requires-clause-dialling : goal.run_stages-requires-clause-dialling
run_stages-requires-clause-dialling g c κs within =
    let by_kind = c.requires.desks in
    let hired = c.in_ok-dialling.ensures in
    let states = c.in_ok-dialling.dialling.items in
    let count =
    c.count_dialling-dialling_count.ensures by_kind.dialling by_kind.completing
    (ap (map (λ (d : DeskView). d.kind)) c.as_slice.ensures.value ∙ by_kind.kinds) in
    All-same (IsThreadState {G = g.row.G.Denot} Dial c.args.fabric.now c.args.queues.now) c.split_off.new.self.items (take by_kind.dialling states)
    (c.in_ok-completing.ensures.items ∙ ap (λ (n : ℕ). take n states) count)
    (diallers by_kind.dialling by_kind.completing c.args.fabric.now c.args.queues.now c.args.desks.items states by_kind.kinds hired.desks hired.states)

pub run_stages-requires-clause-completing : goal.run_stages-requires-clause-completing
run_stages-requires-clause-completing g c κs within =
    let by_kind = c.requires.desks in
    let hired = c.in_ok-dialling.ensures in
    let states = c.in_ok-dialling.dialling.items in
    let count =
    c.count_dialling-dialling_count.ensures by_kind.dialling by_kind.completing
    (ap (map (λ (d : DeskView). d.kind)) c.as_slice.ensures.value ∙ by_kind.kinds) in
    All-same (IsThreadState {G = g.row.G.Denot} Completing c.args.fabric.now c.args.queues.now) c.in_ok-completing.completing.items
    (drop by_kind.dialling states)
    (c.in_ok-completing.ensures.tail ∙ ap (λ (n : ℕ). drop n states) count)
    (completers by_kind.dialling by_kind.completing c.args.fabric.now c.args.queues.now c.args.desks.items states by_kind.kinds hired.desks hired.states)

pub gather-requires-2-clause-states : goal.gather-requires-2-clause-states
gather-requires-2-clause-states g c = (Completing, c.in_ok-dialling-2.ensures.completing.each)

pub returns-clause-dialling : goal.returns-clause-dialling
returns-clause-dialling g c =
    let by_kind = c.requires.desks in
    let hired = c.in_ok-dialling.ensures in
    let states = c.in_ok-dialling.dialling.items in
    let dialled = c.in_ok-dialling-2.field-0.dialling.items in
    let completed = c.in_ok-dialling-2.field-0.completing.items in
    let some = by_kind.some_dial in
    let count =
    c.count_dialling-dialling_count.ensures by_kind.dialling by_kind.completing
    (ap (map (λ (d : DeskView). d.kind)) c.as_slice.ensures.value ∙ by_kind.kinds) in
    let first : length c.split_off.new.self.items ≡ length (take by_kind.dialling states) =
    ap length (c.in_ok-completing.ensures.items ∙ ap (λ (n : ℕ). take n states) count) in
    let stayed = c.in_ok-dialling-2.ensures.dialling.count in
    let workers =
    c.in_ok-gather-2.ensures.workers
    ∙ ap (λ (l : List (Worker DeskView g.row.G.Denot)). l ++ map (λ (s : ThreadState DeskView g.row.G.Denot). s.worker) completed)
    (c.in_ok-gather.ensures.workers
    ∙ ap (λ (l : List (Worker DeskView g.row.G.Denot)). l ++ map (λ (s : ThreadState DeskView g.row.G.Denot). s.worker) dialled) c.new-workers.ensures.items) in
    let its =
    first_count by_kind.dialling by_kind.completing c.args.fabric.now c.args.queues.now c.args.desks.items states by_kind.kinds hired.desks hired.states in (
      omega (arith, some, count),
      subst (λ (l : List (Worker DeskView g.row.G.Denot)). IsThere Dial c.args.fabric.now l 0) (sym workers)
          (there_first c.args.fabric.now c.args.queues.now dialled completed c.in_ok-dialling-2.ensures.dialling.each
          (omega (arith, some, first, stayed, its))),
    )

pub returns-clause-completing : goal.returns-clause-completing
returns-clause-completing g c =
    let by_kind = c.requires.desks in
    let hired = c.in_ok-dialling.ensures in
    let states = c.in_ok-dialling.dialling.items in
    let dialled = c.in_ok-dialling-2.field-0.dialling.items in
    let completed = c.in_ok-dialling-2.field-0.completing.items in
    let some = by_kind.some_complete in
    let count =
    c.count_dialling-dialling_count.ensures by_kind.dialling by_kind.completing
    (ap (map (λ (d : DeskView). d.kind)) c.as_slice.ensures.value ∙ by_kind.kinds) in
    let first : length c.split_off.new.self.items ≡ length (take by_kind.dialling states) =
    ap length (c.in_ok-completing.ensures.items ∙ ap (λ (n : ℕ). take n states) count) in
    let last : length c.in_ok-completing.completing.items ≡ length (drop by_kind.dialling states) =
    ap length (c.in_ok-completing.ensures.tail ∙ ap (λ (n : ℕ). drop n states) count) in
    let stayed_first = c.in_ok-dialling-2.ensures.dialling.count in
    let stayed_last = c.in_ok-dialling-2.ensures.completing.count in
    let workers =
    c.in_ok-gather-2.ensures.workers
    ∙ ap (λ (l : List (Worker DeskView g.row.G.Denot)). l ++ map (λ (s : ThreadState DeskView g.row.G.Denot). s.worker) completed)
    (c.in_ok-gather.ensures.workers
    ∙ ap (λ (l : List (Worker DeskView g.row.G.Denot)). l ++ map (λ (s : ThreadState DeskView g.row.G.Denot). s.worker) dialled) c.new-workers.ensures.items) in
    let its =
    first_count by_kind.dialling by_kind.completing c.args.fabric.now c.args.queues.now c.args.desks.items states by_kind.kinds hired.desks hired.states in
    let others =
    last_count by_kind.dialling by_kind.completing c.args.fabric.now c.args.queues.now c.args.desks.items states by_kind.kinds hired.desks hired.states in
    let here : length dialled ≡ c.count_dialling-dialling_count.result = omega (arith, first, stayed_first, its, count) in
    subst (λ (n : ℕ). IsThere Completing c.args.fabric.now c.gather-2.new.workers.items n) here
    (subst (λ (l : List (Worker DeskView g.row.G.Denot)). IsThere Completing c.args.fabric.now l (length dialled)) (sym workers)
    (there_next c.args.fabric.now c.args.queues.now dialled completed c.in_ok-dialling-2.ensures.completing.each
    (omega (arith, some, last, stayed_last, others))))

pub returns-clause-share : goal.returns-clause-share
returns-clause-share g c =
    let filled = c.requires.filled in
    let hired = c.in_ok-dialling.ensures in
    let ran = c.in_ok-dialling-2.field-0 in
    let stayed = c.in_ok-dialling-2.ensures in
    let workers =
    c.in_ok-gather-2.ensures.workers
    ∙ ap (λ (l : List (Worker DeskView g.row.G.Denot)). l ++ map (λ (s : ThreadState DeskView g.row.G.Denot). s.worker) ran.completing.items)
    (c.in_ok-gather.ensures.workers
    ∙ ap (λ (l : List (Worker DeskView g.row.G.Denot)). l ++ map (λ (s : ThreadState DeskView g.row.G.Denot). s.worker) ran.dialling.items)
    c.new-workers.ensures.items) in
    all_gathered c.count_dialling-dialling_count.result c.args.desks.items c.in_ok-dialling.dialling.items c.split_off.new.self.items
    c.in_ok-completing.completing.items ran.dialling.items ran.completing.items
    ran.whole c.gather.new.whole c.gather-2.new.whole c.gather-2.new.workers.items
    hired.none c.in_ok-completing.ensures.items c.in_ok-completing.ensures.tail stayed.dialling.keep_shares stayed.completing.keep_shares
    (nobodys_after c.args.queues.now filled.0 _ c.args.whole c.open_states.new.whole ran.whole filled.1 hired.calls hired.tasks
    (ap (λ (v : _). v.items) hired.lists.0) (ap (λ (v : _). v.items) hired.lists.1) stayed.whole)
    c.in_ok-gather.ensures.shares c.in_ok-gather-2.ensures.shares workers
