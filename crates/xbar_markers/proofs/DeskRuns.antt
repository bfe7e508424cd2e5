-- thread states in two parts, those that dial and those that complete calls, and what one of their
-- workers does at the end
use Rattle.std.proofs.Common.{◌≡◌, ℕ, zero, suc, ◌+◌, ◌<◌, List, [], ◌∷◌, ◌++◌, map, length, take, drop, sym, refl, ap, ◌∙◌, subst, arith, All, flat_map}
use Rattle.std.proofs.Common.{get_or, sum_by, get_or-drop, get_or-take, length-drop, length-take, take-append-drop, OnOk, Some, Result, Ok, Err, option_map}
use Rattle.std.proofs.Common.{slice_get, slice_set}
use Rattle.std.proofs.lemmas.{List.{get_or-map, length-map, map-append, map-set, Elements.All-head, Sums.sum_by-append}, Option.slice_get-map}
use Rattle.{fair_queue.specs.Tickets.{TicketView, with_fewer_parts}, xbar_moves.specs.declared.kinds.Kind.{Kind, TheVariants.{Completing, Dial}}}
use Rattle.{xbar_fabric.specs.Views.{DeskView, FabricView}, xbar_markers.specs.ThreadStates.{AreStatesOf, HaveServed, IsThreadState, IsThere, KeepShares}}
use Rattle.xbar_markers.specs.{ThreadStates.{desk_at, desks_at, ThreadState}, Shares.{HasServed, HasStopped, IsFilled, IsShareOf, in_tasks, out_of, Queues}}
use Rattle.xbar_markers.specs.{Shares.Share, DesksByKind.kinds_of, Work.AreShort, Calls.{HasDialTone, IsServed, records_of}, declared.call.Call.Call}
use Rattle.xbar_markers.{specs.{declared.{call_records.CallRecords.CallRecords, worker.Worker.Worker}, Tasks.Task}, proofs.KindsOfDesks.are_split}

module _ {G : Type 0} where
  -- the first states are of the first desks, and the others of the others
  pub first_seats : (n : ℕ) (befores : List DeskView) (states : List (ThreadState DeskView G)) → AreStatesOf befores states
      → AreStatesOf (take n befores) (take n states)
  first_seats zero befores states are = tt
  first_seats (suc n) [] [] are = tt
  first_seats (suc n) [] (state ∷ states) are = absurd are
  first_seats (suc n) (before ∷ befores) [] are = absurd are
  first_seats (suc n) (before ∷ befores) (state ∷ states) are = (are.0, first_seats n befores states are.1)

  pub last_seats : (n : ℕ) (befores : List DeskView) (states : List (ThreadState DeskView G)) → AreStatesOf befores states
      → AreStatesOf (drop n befores) (drop n states)
  last_seats zero befores states are = are
  last_seats (suc n) [] [] are = tt
  last_seats (suc n) [] (state ∷ states) are = absurd are
  last_seats (suc n) (before ∷ befores) [] are = absurd are
  last_seats (suc n) (before ∷ befores) (state ∷ states) are = last_seats n befores states are.1

  -- a thread state, of its desk's kind
  abbrev AnySeat : FabricView → Queues → ThreadState DeskView G → Type 0
  AnySeat fabric queues state = IsThreadState (desk_at state).kind fabric queues state

  module _ (dialling completing : ℕ) (fabric : FabricView) (queues : Queues) (desks : List DeskView) (states : List (ThreadState DeskView G))
      (kinds : map (λ (d : DeskView). d.kind) desks ≡ kinds_of dialling completing) (theirs : map desk_at states ≡ desks)
      (all : All (AnySeat fabric queues) states) where
    as_many : length states ≡ dialling + completing
    as_many =
        let count = (are_split dialling completing desks kinds).count in
        let same = ap (length {A = DeskView}) theirs in
        omega (arith, count, same, length-map states (λ (s : ThreadState DeskView G). desk_at s))

    kind_at : (i : ℕ) (e : ThreadState DeskView G) → i < length states → get_or desks i (desk_at e) ≡ desk_at (get_or states i e)
    kind_at i e below = sym (ap (λ (l : List DeskView). get_or l i (desk_at e)) theirs) ∙ get_or-map desk_at states i e (desk_at e) below

    pub diallers : All (IsThreadState Dial fabric queues) (take dialling states)
    diallers i e below =
        let count = as_many in
        let near : i < dialling = omega (arith, below, length-take dialling states) in
        let within : i < length states = omega (arith, near, count) in
        let kind : (desk_at (get_or states i e)).kind ≡ Dial =
        sym (ap (λ (d : DeskView). d.kind) (kind_at i e within)) ∙ (are_split dialling completing desks kinds).first i (desk_at e) near in
        subst (IsThreadState Dial fabric queues) (sym (get_or-take dialling states i e near))
        (subst (λ (k : Kind). IsThreadState k fabric queues (get_or states i e)) kind (all i e within))

    pub completers : All (IsThreadState Completing fabric queues) (drop dialling states)
    completers i e below =
        let count = as_many in
        let within : dialling + i < length states = omega (arith, below, length-drop dialling states, count) in
        let kind : (desk_at (get_or states (dialling + i) e)).kind ≡ Completing =
        sym (ap (λ (d : DeskView). d.kind) (kind_at (dialling + i) e within))
        ∙ (are_split dialling completing desks kinds).last (dialling + i) (desk_at e) (omega arith) (omega (arith, within, count)) in
        subst (IsThreadState Completing fabric queues) (sym (get_or-drop dialling states i e))
        (subst (λ (k : Kind). IsThreadState k fabric queues (get_or states (dialling + i) e)) kind (all (dialling + i) e within))

    -- as many of each as there are desks of the kind
    pub first_count : length (take dialling states) ≡ dialling
    first_count = let count = as_many in omega (arith, count, length-take dialling states)

    pub last_count : length (drop dialling states) ≡ completing
    last_count = let count = as_many in omega (arith, count, length-drop dialling states)

  abbrev worker_of : ThreadState DeskView G → Worker DeskView G
  worker_of state = state.worker

  -- the desks of the states' workers are the desks of the states
  desks_there : (states : List (ThreadState DeskView G)) → desks_at (map worker_of states) ≡ map desk_at states
  desks_there [] = refl
  desks_there (state ∷ states) = ap (λ (l : List DeskView). desk_at state ∷ l) (desks_there states)

  -- a worker that dials is first
  pub there_first : (fabric : FabricView) (queues : Queues) (dialled completed : List (ThreadState DeskView G)) → All (IsThreadState Dial fabric queues) dialled
      → 0 < length dialled → IsThere Dial fabric (map worker_of dialled ++ map worker_of completed) 0
  there_first fabric queues [] completed all some = absurd (omega (arith, some))
  there_first fabric queues (state ∷ dialled) completed all some =
      let first = All-head (IsThreadState Dial fabric queues) state dialled all in
      (first.ready, first.kind_is)

  -- and after all that dial is one that completes calls
  pub there_next : (fabric : FabricView) (queues : Queues) (dialled completed : List (ThreadState DeskView G))
      → All (IsThreadState Completing fabric queues) completed → 0 < length completed
      → IsThere Completing fabric (map worker_of dialled ++ map worker_of completed) (length dialled)
  there_next fabric queues [] [] all some = absurd (omega (arith, some))
  there_next fabric queues [] (state ∷ completed) all some =
      let first = All-head (IsThreadState Completing fabric queues) state completed all in
      (first.ready, first.kind_is)
  there_next fabric queues (state ∷ dialled) completed all some = there_next fabric queues dialled completed all some

  -- what gathering the shares of thread states does to a share
  abbrev Gathers : List (ThreadState DeskView G) → Share → Share → Type 0
  Gathers states share after = (befores desks others : List DeskView) → IsShareOf befores desks share → AreStatesOf others states
      → IsShareOf (befores ++ others) (desks ++ map desk_at states) after

  -- once all shares are in one, it is that of all desks
  pub all_gathered : (n : ℕ) (befores : List DeskView) (states first last dialled completed : List (ThreadState DeskView G)) (whole one two : Share)
      (workers : List (Worker DeskView G))
      → AreStatesOf befores states → first ≡ take n states → last ≡ drop n states → KeepShares first dialled → KeepShares last completed → IsShareOf [] [] whole
      → Gathers dialled whole one → Gathers completed one two
      → workers ≡ map worker_of dialled ++ map worker_of completed → IsShareOf befores (desks_at workers) two
  all_gathered n befores states first last dialled completed whole one two workers are first_is last_is stay_first stay_last none gathers_one gathers_two
      workers_are =
      let of_first = stay_first (take n befores) (subst (AreStatesOf (take n befores)) (sym first_is) (first_seats n befores states are)) in
      let of_last = stay_last (drop n befores) (subst (AreStatesOf (drop n befores)) (sym last_is) (last_seats n befores states are)) in
      let both = gathers_two (take n befores) (map desk_at dialled) (drop n befores) (gathers_one [] [] (take n befores) none of_first) of_last in
      let desks_are : desks_at workers ≡ map desk_at dialled ++ map desk_at completed =
      ap desks_at workers_are ∙ map-append (λ (w : Worker DeskView G). w.desk) (map worker_of dialled) (map worker_of completed)
      ∙ (λ i. desks_there dialled i ++ desks_there completed i) in
      subst (λ (l : List DeskView). IsShareOf befores l two) (sym desks_are)
      (subst (λ (l : List DeskView). IsShareOf l (map desk_at dialled ++ map desk_at completed) two) (take-append-drop n befores) both)

  -- what one of the workers did, they all did
  pub served_at : (k : ℕ) (workers : List (Worker DeskView G)) (w after : Worker DeskView G) (share share_after : Share) → slice_get workers k ≡ Some w
      → HasServed w.desk share after.desk share_after
      → HaveServed workers share (slice_set workers k after) share_after
  served_at k workers w after share share_after there served befores of =
      let desk_there : slice_get (desks_at workers) k ≡ Some w.desk =
      slice_get-map (λ (x : Worker DeskView G). x.desk) workers k ∙ ap (option_map (λ (x : Worker DeskView G). x.desk)) there in
      subst (λ (l : List DeskView). IsShareOf befores l share_after) (sym (map-set (λ (x : Worker DeskView G). x.desk) workers k after))
      (served befores (desks_at workers) k desk_there of)

-- what follows from what holds if all went well
pub on_ok : {T E P Q : Type 0} (result : Result T E) → (P → Q) → OnOk result P → OnOk result Q
on_ok (Ok value) f p = f p
on_ok (Err why) f p = tt

-- a share to which nothing came is nobody's
pub nobodys : (share : Share) → share.calls.taken ≡ [] → share.tasks.taken ≡ [] → in_tasks share.tasks.put ≡ [] → share.kept.items ≡ [] → share.ended.items ≡ []
    → IsShareOf [] [] share
nobodys share no_calls no_tasks none_put none_kept none_ended =
    let out_none : out_of share ≡ [] = λ i. none_put i ++ none_kept i ++ none_ended i in record {
      done = [];
      worked = λ h. refl;
      balanced = record {
        calls = λ h.
            let taken : sum_by h share.calls.taken ≡ 0 = ap (sum_by h) no_calls in
            let tasks : sum_by h (map (λ (c : CallRecords). c.call) (in_tasks share.tasks.taken)) ≡ 0 =
            ap (λ l. sum_by h (map (λ (c : CallRecords). c.call) (in_tasks l))) no_tasks in
            let out : sum_by h (map (λ (c : CallRecords). c.call) (out_of share)) ≡ 0 =
            ap (λ (l : List CallRecords). sum_by h (map (λ (c : CallRecords). c.call) l)) out_none in
            omega (arith, taken, tasks, out, sum_by-append h share.calls.taken (map (λ (c : CallRecords). c.call) (in_tasks share.tasks.taken)));
        records = λ h.
            let tasks : sum_by h (flat_map records_of (in_tasks share.tasks.taken)) ≡ 0 = ap (λ l. sum_by h (flat_map records_of (in_tasks l))) no_tasks in
            let out : sum_by h (flat_map records_of (out_of share)) ≡ 0 = ap (λ (l : List CallRecords). sum_by h (flat_map records_of l)) out_none in
            tasks ∙ sym out;
      };
      kept = subst (All HasDialTone) (sym none_kept) (λ i d below. absurd (omega (arith, below)));
      ended = subst (All (IsServed (AreShort []))) (sym none_ended) (λ i d below. absurd (omega (arith, below)));
    }

-- nor is the share that is left once the thread states have their parts and the stops are put
pub nobodys_after : (queues : Queues) (calls : List Call) (n : ℕ) (filled hired after : Share) → IsFilled queues calls filled
    → hired.calls ≡ with_fewer_parts filled.calls n → hired.tasks ≡ with_fewer_parts filled.tasks n
    → hired.kept.items ≡ filled.kept.items → hired.ended.items ≡ filled.ended.items → HasStopped hired after → IsShareOf [] [] after
nobodys_after queues calls n filled hired after is calls_are tasks_are kept_is ended_is stopped =
    nobodys after
    (ap (λ (s : Share). s.calls.taken) stopped.same ∙ ap (λ (t : TicketView Call). t.taken) calls_are ∙ ap (λ (t : TicketView Call). t.taken) is.calls_are)
    (ap (λ (s : Share). s.tasks.taken) stopped.same ∙ ap (λ (t : TicketView Task). t.taken) tasks_are ∙ ap (λ (t : TicketView Task). t.taken) is.tasks)
    (stopped.stops ∙ ap (λ (t : TicketView Task). in_tasks t.put) tasks_are ∙ ap (λ (t : TicketView Task). in_tasks t.put) is.tasks)
    (ap (λ (s : Share). s.kept.items) stopped.same ∙ kept_is ∙ is.kept)
    (ap (λ (s : Share). s.ended.items) stopped.same ∙ ended_is ∙ is.ended)
