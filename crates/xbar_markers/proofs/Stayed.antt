-- What a thread state becomes while its worker works, and what the threads returned, state by
-- state.
use Rattle.std.proofs.Common.{◌≡◌, ℕ, suc, ◌<◌, List, [], ◌∷◌, IfOk, Ok, Result, length, get_or, map, refl, sym, ap, ◌∙◌, subst, arith}
use Rattle.{std.{specs.declared.alloc.AllocError.AllocError, proofs.lemmas.List.{get_or-map, length-map}}, xbar_moves.specs.declared.kinds.Kind.Kind}
use Rattle.{xbar_fabric.specs.Views.{DeskView, FabricView}, xbar_markers.specs.ThreadStates.{HasWorkedOn, HaveWorkedOn, IsThreadState, KeepShares, KeepsShare}}
use Rattle.xbar_markers.specs.{ThreadStates.{desk_at, ThreadState}, Shares.{HasServed, HasTickets, MayUse, Queues, Share}, Work.IsReady}

-- with the tickets of before a share may still use the queues
still_may : (queues : Queues) (share after : Share) → HasTickets share after → MayUse share queues
    → MayUse after queues
still_may queues share after tickets may =
    record {
      calls = (
        tickets.calls_queue ∙ may.calls.0,
        subst (λ n. 0 < n) (sym tickets.calls_parts) may.calls.1,
      );
      tasks = (
        tickets.tasks_queue ∙ may.tasks.0,
        subst (λ n. 0 < n) (sym tickets.tasks_parts) may.tasks.1,
      );
    }

module _ {G : Type 0} (kind : Kind) (fabric : FabricView) (queues : Queues) where
  -- a thread state whose desk has served
  pub seat_stayed : (state after : ThreadState DeskView G) → IsThreadState kind fabric queues state
      → IsReady (desk_at after) fabric → (desk_at after).kind ≡ kind
      → HasTickets state.share after.share
      → HasServed (desk_at state) state.share (desk_at after) after.share
      → HasWorkedOn kind fabric queues state after
  seat_stayed state after is_seat ready kind_is tickets served =
      record {
        state_is = record {
          ready = ready;
          kind_is = kind_is;
          may = still_may queues state.share after.share tickets is_seat.may;
          calls_parts = tickets.calls_parts ∙ is_seat.calls_parts;
          tasks_parts = tickets.tasks_parts ∙ is_seat.tasks_parts;
          calls_put = tickets.calls_put ∙ is_seat.calls_put;
        };
        keeps_share = λ before. served (before ∷ []) (desk_at state ∷ []) 0 refl;
      }

  -- thread states that stayed, one by one
  stay_by_each : (states after : List (ThreadState DeskView G)) → length after ≡ length states
      → ((i : ℕ) (d e : ThreadState DeskView G) → i < length states
      → KeepsShare (get_or states i d) (get_or after i e)) → KeepShares states after
  stay_by_each [] [] count each [] are = are
  stay_by_each [] [] count each (b ∷ befores) are = are
  stay_by_each [] (a ∷ after) count each befores are = absurd (omega arith)
  stay_by_each (s ∷ states) [] count each befores are = absurd (omega arith)
  stay_by_each (s ∷ states) (a ∷ after) count each [] are = absurd are
  stay_by_each (s ∷ states) (a ∷ after) count each (b ∷ befores) are = (
    each 0 s a (omega arith) b are.0,
    stay_by_each states after (omega arith) (λ i d e lt. each (suc i) d e (omega arith)) befores
        are.1,
  )

  -- each result is that of a thread state, and this stayed, if the result is no error
  abbrev pub GaveBack : List (ThreadState DeskView G) → List (Result (ThreadState DeskView G) AllocError) → Type 0
  GaveBack states results =
      (i : ℕ) (d : Result (ThreadState DeskView G) AllocError) → i < length states
      → (state : ThreadState DeskView G) × ((e : ThreadState DeskView G) → get_or states i e ≡ state)
      × IfOk (get_or results i d) (HasWorkedOn kind fabric queues state)

  pub all_stayed : (states after : List (ThreadState DeskView G))
      (results : List (Result (ThreadState DeskView G) AllocError)) → results ≡ map Ok after
      → length results ≡ length states → GaveBack states results
      → HaveWorkedOn kind fabric queues states after
  all_stayed states after results ok count gave =
      let back : ThreadState DeskView G → Result (ThreadState DeskView G) AllocError = λ state. Ok state in
      let as_many = ap length ok in
      let count_after : length after ≡ length states = omega (arith, length-map after back, count) in
      let each : (i : ℕ) (d e : ThreadState DeskView G) → i < length states
      → HasWorkedOn kind fabric queues (get_or states i d) (get_or after i e) =
      λ i d e lt.
      let one = gave i (Ok e) lt in
      let read : get_or results i (Ok e) ≡ Ok (get_or after i e) =
      ap (λ (l : List (Result (ThreadState DeskView G) AllocError)). get_or l i (Ok e)) ok
      ∙ get_or-map back after i e (Ok e) (omega (arith, count_after)) in
      subst (λ (state : ThreadState DeskView G). HasWorkedOn kind fabric queues state (get_or after i e))
      (sym (one.1 d))
      (subst
      (λ (r : Result (ThreadState DeskView G) AllocError). IfOk r (HasWorkedOn kind fabric queues one.0))
      read one.2) in
      record {
        each = λ i d lt. (each i d d (omega (arith, count_after))).state_is;
        count = count_after;
        keep_shares = stay_by_each states after count_after (λ i d e lt. (each i d e lt).keeps_share);
      }
