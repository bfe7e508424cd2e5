-- Workers with their shares, before they go to threads and when they come back.
use Rattle.std.specs.Prelude.{◌≡◌, ℕ, IsSomeAnd, List, [], ◌∷◌, All, length, map, slice_get, ⊤}
use Rattle.xbar_moves.specs.declared.kinds.Kind.{Kind}
use Rattle.xbar_fabric.specs.Views.{DeskView, FabricView}
use Rattle.xbar_markers.specs.Shares.{IsShareOf, MayUse, Queues, Share}
use Rattle.xbar_markers.specs.Work.{IsReady}
use Rattle.xbar_markers.specs.declared.call_records.CallRecords.{CallRecords}
use Rattle.xbar_markers.specs.declared.thread_state.ThreadState as declared
use Rattle.xbar_markers.specs.declared.worker.Worker.{Worker}

-- a thread state as contracts see it: its share's calls are calls' records
abbrev pub ThreadState : Type 0 → Type 0 → Type 0
ThreadState D G = declared.ThreadState D G CallRecords

module _ {G : Type 0} where
  -- the desk of a thread state
  abbrev pub desk_at : ThreadState DeskView G → DeskView
  desk_at state = state.worker.desk

  -- the desks of workers
  abbrev pub desks_at : List (Worker DeskView G) → List DeskView
  desks_at workers = map (λ worker. worker.desk) workers

  -- there is a worker k, with an idle desk of this kind
  abbrev pub IsThere : Kind → FabricView → List (Worker DeskView G) → ℕ → Type 0
  IsThere kind fabric workers k = IsSomeAnd (slice_get workers k)
      (λ worker. IsReady worker.desk fabric × (worker.desk.kind ≡ kind))

  -- the workers' work leads from this share to that one, whichever desks' share it is
  abbrev pub HaveServed : List (Worker DeskView G) → Share → List (Worker DeskView G) → Share
      → Type 0
  HaveServed workers share after share_after = (befores : List DeskView)
      → IsShareOf befores (desks_at workers) share → IsShareOf befores (desks_at after) share_after

  -- the state of an idle desk of this kind, with one part of each queue's ticket and no calls put
  pub record IsThreadState (kind : Kind) (fabric : FabricView) (queues : Queues)
      (state : ThreadState DeskView G)
      : Type 0 where
    pub ready : IsReady (desk_at state) fabric
    pub kind_is : (desk_at state).kind ≡ kind
    pub may : MayUse state.share queues
    pub calls_parts : state.share.calls.parts ≡ 1
    pub tasks_parts : state.share.tasks.parts ≡ 1
    pub calls_put : state.share.calls.put ≡ []

  -- each state's share is that of the work that its desk has done since it was as before
  abbrev pub AreStatesOf : List DeskView → List (ThreadState DeskView G) → Type 0
  AreStatesOf [] [] = ⊤
  AreStatesOf (before ∷ befores) (state ∷ states) =
      IsShareOf (before ∷ []) (desk_at state ∷ []) state.share × AreStatesOf befores states
  AreStatesOf _ _ = ⊥

  -- after more work the share is still that of all of its desk's work
  abbrev pub KeepsShare : ThreadState DeskView G → ThreadState DeskView G → Type 0
  KeepsShare state after = (before : DeskView)
      → IsShareOf (before ∷ []) (desk_at state ∷ []) state.share
      → IsShareOf (before ∷ []) (desk_at after ∷ []) after.share

  -- after more work the shares are still those of all of their desks' work
  abbrev pub KeepShares : List (ThreadState DeskView G) → List (ThreadState DeskView G) → Type 0
  KeepShares states after =
      (befores : List DeskView) → AreStatesOf befores states → AreStatesOf befores after

  -- a thread state of this kind after more work
  pub record HasWorkedOn (kind : Kind) (fabric : FabricView) (queues : Queues)
      (state after : ThreadState DeskView G) : Type 0 where
    pub state_is : IsThreadState kind fabric queues after
    pub keeps_share : KeepsShare state after

  -- thread states of this kind after more work, as many as before
  pub record HaveWorkedOn (kind : Kind) (fabric : FabricView) (queues : Queues)
      (states after : List (ThreadState DeskView G)) : Type 0 where
    pub each : All (IsThreadState kind fabric queues) after
    pub count : length after ≡ length states
    pub keep_shares : KeepShares states after
