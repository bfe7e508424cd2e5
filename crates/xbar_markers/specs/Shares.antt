-- What came to workers through the queues, and what became of it.
use Rattle.std.specs.Prelude.{◌≡◌, ◌⊎◌, ℕ, Some, List, [], ◌∷◌, ◌++◌, All, flat_map, map, option_to_list, slice_get, slice_set}
use Rattle.fair_queue.specs.Items.{SameItems}
use Rattle.fair_queue.specs.Tickets.{IsUsable, first_ticket}
use Rattle.xbar_office.specs.declared.reply.Record.{Record}
use Rattle.xbar_moves.specs.declared.kinds.Kind.{Kind}
use Rattle.xbar_fabric.specs.Views.{DeskView, FabricView}
use Rattle.xbar_markers.specs.Calls.{HasDialTone, IsServed, records_of}
use Rattle.xbar_markers.specs.Work.{AreShort, WorkerHasWorked, HaveWorked, IsReady}
use Rattle.xbar_markers.specs.declared.call.Call.{Call}
use Rattle.xbar_markers.specs.declared.call_records.CallRecords.{CallRecords}
use Rattle.xbar_markers.specs.Tasks.{Task}
use Rattle.xbar_markers.specs.declared.queues.Queues as declared_queues
use Rattle.xbar_markers.specs.declared.share.Share as declared_share
use Rattle.xbar_markers.specs.declared.task.Task.TheVariants as task

-- the queues and a share as contracts see them: their calls are calls' records
abbrev pub Queues : Type 0
Queues = declared_queues.Queues CallRecords

abbrev pub Share : Type 0
Share = declared_share.Share CallRecords

-- the call in a task, with its records so far
abbrev pub in_task : Task → List CallRecords
in_task (task.Complete c) = c ∷ []
in_task task.Stop = []

-- the calls in tasks, with their records so far
abbrev pub in_tasks : List Task → List CallRecords
in_tasks tasks = flat_map in_task tasks

-- the calls that a share passed on or still has
abbrev pub out_of : Share → List CallRecords
out_of share = in_tasks share.tasks.put ++ share.kept.items ++ share.ended.items

-- nothing is lost, and nothing comes twice: the calls that came are those that were passed on or
-- are still here, and so are their records, together with those of the jobs that were done
pub record IsBalanced (done : List Record) (share : Share) : Type 0 where
  pub calls : SameItems (share.calls.taken ++ map (λ c. c.call) (in_tasks share.tasks.taken))
      (map (λ c. c.call) (out_of share))
  pub records : SameItems (done ++ flat_map records_of (in_tasks share.tasks.taken))
      (flat_map records_of (out_of share))

-- this is the share of the work that these desks have done since they were as before
pub record IsShareOf (befores desks : List DeskView) (share : Share) : Type 0 where
  pub done : List Record
  pub worked : HaveWorked befores desks done
  pub balanced : IsBalanced done share
  pub kept : All HasDialTone share.kept.items
  pub ended : All (IsServed (AreShort desks)) share.ended.items

-- one desk's work leads from this share to that one, whichever desks' share it is
abbrev pub HasServed : DeskView → Share → DeskView → Share → Type 0
HasServed before share after share_after =
    (befores desks : List DeskView) (k : ℕ) → slice_get desks k ≡ Some before
    → IsShareOf befores desks share → IsShareOf befores (slice_set desks k after) share_after

-- the tickets have as many parts as before, and no more calls were put
pub record HasTickets (share after : Share) : Type 0 where
  pub calls_queue : after.calls.queue ≡ share.calls.queue
  pub calls_parts : after.calls.parts ≡ share.calls.parts
  pub calls_put : after.calls.put ≡ share.calls.put
  pub tasks_queue : after.tasks.queue ≡ share.tasks.queue
  pub tasks_parts : after.tasks.parts ≡ share.tasks.parts

-- the two ends of each queue belong together
pub record AreOpen (queues : Queues) : Type 0 where
  pub calls : queues.calls_out ≡ queues.calls_in
  pub tasks : queues.tasks_out ≡ queues.tasks_in

-- the share's tickets may be used with these queues
pub record MayUse (share : Share) (queues : Queues) : Type 0 where
  pub calls : IsUsable share.calls queues.calls_in
  pub tasks : IsUsable share.tasks queues.tasks_in

-- an idle desk of this kind may use the queues with this share
pub record MayServe (kind : Kind) (fabric : FabricView) (queues : Queues) (desk : DeskView)
    (share : Share) : Type 0 where
  pub are_open : AreOpen queues
  pub may : MayUse share queues
  pub ready : IsReady desk fabric
  pub kind_is : desk.kind ≡ kind

-- a call whose line has dial tone went on through the second queue, or was kept
pub record HasPassedOn (call : CallRecords) (share after : Share) : Type 0 where
  pub calls : after.calls ≡ share.calls
  pub taken : after.tasks.taken ≡ share.tasks.taken
  pub ended : after.ended.items ≡ share.ended.items
  pub went : (after.kept.items ≡ share.kept.items)
      × (after.tasks.put ≡ share.tasks.put ++ task.Complete call ∷ [])
      ⊎ (after.kept.items ≡ share.kept.items ++ call ∷ []) × (after.tasks.put ≡ share.tasks.put)

-- a new share: nothing came yet, and it has every part of both tickets
pub record IsNewShare (queues : Queues) (share : Share) : Type 0 where
  pub calls : share.calls ≡ first_ticket queues.calls_in.name
  pub tasks : share.tasks ≡ first_ticket queues.tasks_in.name
  pub kept : share.kept.items ≡ []
  pub ended : share.ended.items ≡ []

-- the desk did what was left to do for a call whose line had dial tone, and nothing else
pub record HasCompleted (before after : DeskView) (call served : CallRecords) : Type 0 where
  pub call_is : served.call ≡ call.call
  pub dial_is : served.dial ≡ call.dial
  pub served_all : IsServed (AreShort (after ∷ [])) served
  pub worked : WorkerHasWorked before after
      (option_to_list served.complete ++ option_to_list served.release)

-- stops were put into the second queue, and nothing else was done
pub record HasStopped (share after : Share) : Type 0 where
  pub same : after ≡ record share { tasks = record share.tasks { put = after.tasks.put } }
  pub stops : in_tasks after.tasks.put ≡ in_tasks share.tasks.put

-- these calls were put into the first queue, and nothing else was done
pub record IsFilled (queues : Queues) (calls : List Call) (share : Share) : Type 0 where
  pub calls_are : share.calls ≡ record (first_ticket queues.calls_in.name) { put = calls }
  pub tasks : share.tasks ≡ first_ticket queues.tasks_in.name
  pub kept : share.kept.items ≡ []
  pub ended : share.ended.items ≡ []
