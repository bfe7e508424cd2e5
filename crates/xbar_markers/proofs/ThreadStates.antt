-- Thread states that are opened and gathered one by one.
use Rattle.std.proofs.Common.{◌≡◌, ℕ, ◌+◌, ◌-◌, List, [], ◌∷◌, ◌++◌, length, map, refl, sym, ap, ◌∙◌, subst, arith, append_assoc, append-nil}
use Rattle.{std.proofs.lemmas.List.map-append, fair_queue.specs.Tickets.{IsUsable, TicketView, new_ticket, with_fewer_parts}}
use Rattle.{xbar_fabric.specs.Views.{DeskView, FabricView}, xbar_markers.specs.ThreadStates.{AreStatesOf, IsThreadState, desk_at, ThreadState}}
use Rattle.xbar_markers.{specs.{Shares.{IsShareOf, MayUse, Queues, Share}, Work.IsReady}, proofs.Joined.{IsJoined, joined_share}}

module _ {G : Type 0} where
  -- thread states, and one more
  pub seats_and_one : (befores : List DeskView) (states : List (ThreadState DeskView G)) (before : DeskView)
      (state : ThreadState DeskView G) → AreStatesOf befores states
      → IsShareOf (before ∷ []) (desk_at state ∷ []) state.share
      → AreStatesOf (befores ++ before ∷ []) (states ++ state ∷ [])
  seats_and_one [] [] before state none one = (one, tt)
  seats_and_one [] (s ∷ states) before state none one = absurd none
  seats_and_one (b ∷ befores) [] before state none one = absurd none
  seats_and_one (b ∷ befores) (s ∷ states) before state each one =
      (each.0, seats_and_one befores states before state each.1 one)

  -- the desks of thread states and of one more, as they were before
  record AreSeatsAndOne (befores : List DeskView) (states : List (ThreadState DeskView G))
      (state : ThreadState DeskView G) : Type 0 where
    pub others : List DeskView
    pub before : DeskView
    pub whole : befores ≡ others ++ before ∷ []
    pub seats_are : AreStatesOf others states
    pub one : IsShareOf (before ∷ []) (desk_at state ∷ []) state.share

  one_of_seats : (befores : List DeskView) (states : List (ThreadState DeskView G))
      (state : ThreadState DeskView G) → AreStatesOf befores (states ++ state ∷ [])
      → AreSeatsAndOne befores states state
  one_of_seats [] [] state none = absurd none
  one_of_seats [] (s ∷ states) state none = absurd none
  one_of_seats (b ∷ []) [] state each =
      record { others = []; before = b; whole = refl; seats_are = tt; one = each.0 }
  one_of_seats (b ∷ c ∷ befores) [] state each = absurd each.1
  one_of_seats (b ∷ befores) (s ∷ states) state each =
      let rest = one_of_seats befores states state each.1 in
      record {
        others = b ∷ rest.others;
        before = rest.before;
        whole = ap (λ l. b ∷ l) rest.whole;
        seats_are = (each.0, rest.seats_are);
        one = rest.one;
      }

  -- the share of these desks is that of those as well, once one more state's share is joined to it
  pub seat_joined : (befores desks others : List DeskView) (states : List (ThreadState DeskView G))
      (state : ThreadState DeskView G) (one whole : Share) → IsJoined one state.share whole
      → ((known : List DeskView) → AreStatesOf known states
      → IsShareOf (befores ++ known) (desks ++ map desk_at states) one)
      → AreStatesOf others (states ++ state ∷ [])
      → IsShareOf (befores ++ others) (desks ++ map desk_at (states ++ state ∷ [])) whole
  seat_joined befores desks others states state one whole joined so_far each =
      let last = one_of_seats others states state each in
      let share =
      joined_share (befores ++ last.others) (desks ++ map desk_at states) (last.before ∷ [])
      (desk_at state ∷ []) one state.share whole joined (so_far last.others last.seats_are)
      last.one in
      let all_before : (befores ++ last.others) ++ last.before ∷ [] ≡ befores ++ others =
      append_assoc befores last.others (last.before ∷ [])
      ∙ ap (λ l. befores ++ l) (sym last.whole) in
      let all_after : (desks ++ map desk_at states) ++ desk_at state ∷ []
      ≡ desks ++ map desk_at (states ++ state ∷ []) =
      append_assoc desks (map desk_at states) (desk_at state ∷ [])
      ∙ ap (λ l. desks ++ l) (sym (map-append desk_at states (state ∷ []))) in
      subst (λ (z : List DeskView × List DeskView). IsShareOf z.0 z.1 whole)
      (λ i. (all_before i, all_after i)) share

-- no state's share is joined yet
pub none_joined : (G : Type 0) (befores desks others : List DeskView) (whole : Share)
    → IsShareOf befores desks whole → AreStatesOf {G = G} others []
    → IsShareOf (befores ++ others) (desks ++ []) whole
none_joined G befores desks [] whole share none =
    subst (λ (z : List DeskView × List DeskView). IsShareOf z.0 z.1 whole)
    (λ i. (sym (append-nil befores) i, sym (append-nil desks) i)) share
none_joined G befores desks (d ∷ others) whole share none = absurd none

-- a share that may be used with the queues may be so with another joined to it
pub joined_may : (queues : Queues) (one other whole : Share) → IsJoined one other whole
    → MayUse one queues → MayUse whole queues
joined_may queues one other whole joined may =
    record {
      calls =
          subst (λ t. IsUsable t queues.calls_in) (sym joined.calls)
          (may.calls.0, (let some = may.calls.1 in omega arith));
      tasks =
          subst (λ t. IsUsable t queues.tasks_in) (sym joined.tasks)
          (may.tasks.0, (let some = may.tasks.1 in omega arith));
    }

-- one part after others is cut off
pub fewer_again : {X : Type 0} (ticket : TicketView X) (count : ℕ)
    → with_fewer_parts (with_fewer_parts ticket count) 1 ≡ with_fewer_parts ticket (count + 1)
fewer_again ticket count =
    let left : ticket.parts - count - 1 ≡ ticket.parts - (count + 1) = omega arith in
    λ i. record ticket { parts = left i }

-- a thread state with new tickets
pub new_seat : {G : Type 0} (fabric : FabricView) (queues : Queues) (whole : Share)
    (state : ThreadState DeskView G) → IsReady (desk_at state) fabric → MayUse whole queues
    → state.share.calls ≡ new_ticket whole.calls.queue
    → state.share.tasks ≡ new_ticket whole.tasks.queue
    → IsThreadState (desk_at state).kind fabric queues state
new_seat fabric queues whole state ready may calls tasks =
    record {
      ready = ready;
      kind_is = refl;
      may = record {
        calls = subst (λ t. IsUsable t queues.calls_in) (sym calls) (may.calls.0, omega arith);
        tasks = subst (λ t. IsUsable t queues.tasks_in) (sym tasks) (may.tasks.0, omega arith);
      };
      calls_parts = ap (λ t. t.parts) calls;
      tasks_parts = ap (λ t. t.parts) tasks;
      calls_put = ap (λ t. t.put) calls;
    }

-- two lists as long as each other stay so without their first elements
pub both_shorter : {X Y : Type 0} (xs rest : List X) (ys others : List Y) (x : X) (y : Y)
    → xs ≡ x ∷ rest → ys ≡ y ∷ others → length ys ≡ length xs → length others ≡ length rest
both_shorter xs rest ys others x y first second same =
    let longer = ap length first in
    let as_long = ap length second in
    omega arith
