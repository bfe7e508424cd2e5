-- once nothing is left in the queues, each call was served once
use Rattle.std.proofs.Common.{◌≡◌, List, [], ◌∷◌, ◌++◌, ap, ◌∙◌, arith, map, flat_map, sum_by, append-nil}
use Rattle.{std.proofs.lemmas.{List.{map-append, Sums.sum_by-append}, Grind.flat_map-append}, fair_queue.specs.Items.SameItems}
use Rattle.{fair_queue.proofs.Weights.{SameItems-flat_map, SameItems-map}, xbar_office.specs.declared.reply.Record.Record, xbar_fabric.specs.Views.DeskView}
use Rattle.xbar_markers.specs.{Calls.{AreServed, records_of}, Shares.{IsShareOf, in_task, in_tasks, out_of, Share}, Work.{AreShort, HaveWorked}}
use Rattle.xbar_markers.specs.declared.{call.Call.Call, call_records.CallRecords.CallRecords}

abbrev call_of : CallRecords → Call
call_of c = c.call

-- what desks have done is the same in another order
pub worked_as : (befores desks : List DeskView) (records others : List Record) → SameItems records others
    → HaveWorked befores desks records → HaveWorked befores desks others
worked_as [] [] records others same worked = λ h. worked h ∙ same h
worked_as [] (d ∷ desks) records others same worked = worked
worked_as (b ∷ befores) [] records others same worked = worked
worked_as (b ∷ befores) (d ∷ desks) records others same worked =
    (worked.0, worked.1, (λ h. worked.2 h ∙ same h), worked.3, worked.4)

module _ (share : Share) (kept : share.kept.items ≡ [])
    (calls_gone : SameItems share.calls.put share.calls.taken)
    (tasks_gone : SameItems share.tasks.put share.tasks.taken) where
  in_same : SameItems (in_tasks share.tasks.put) (in_tasks share.tasks.taken)
  in_same = SameItems-flat_map in_task share.tasks.put share.tasks.taken tasks_gone

  -- with nothing kept
  out_is : out_of share ≡ in_tasks share.tasks.put ++ share.ended.items
  out_is =
      ap (λ (l : List CallRecords). in_tasks share.tasks.put ++ l ++ share.ended.items) kept
      ∙ ap (λ (l : List CallRecords). l ++ share.ended.items) (append-nil (in_tasks share.tasks.put))

  module _ (befores desks : List DeskView) (of : IsShareOf befores desks share) where
    all_calls : SameItems (map call_of share.ended.items) share.calls.put
    all_calls h =
        let ended = share.ended.items in
        let put = in_tasks share.tasks.put in
        let taken = in_tasks share.tasks.taken in
        let same = SameItems-map call_of put taken in_same h in
        let balanced : sum_by h (share.calls.taken ++ map call_of taken) ≡ sum_by h (map call_of (out_of share)) = of.balanced.calls h in
        let out : sum_by h (map call_of (out_of share)) ≡ sum_by h (map call_of put ++ map call_of ended) =
        ap (λ (l : List CallRecords). sum_by h (map call_of l)) out_is ∙ ap (sum_by h) (map-append call_of put ended) in
        let gone = calls_gone h in
        omega (
          arith,
          same,
          balanced,
          out,
          gone,
          sum_by-append h share.calls.taken (map call_of taken),
          sum_by-append h (map call_of put) (map call_of ended),
        )

    all_records : SameItems of.done (flat_map records_of share.ended.items)
    all_records h =
        let ended = share.ended.items in
        let put = in_tasks share.tasks.put in
        let taken = in_tasks share.tasks.taken in
        let same = SameItems-flat_map records_of put taken in_same h in
        let balanced = of.balanced.records h in
        let out : sum_by h (flat_map records_of (out_of share)) ≡ sum_by h (flat_map records_of put ++ flat_map records_of ended) =
        ap (λ (l : List CallRecords). sum_by h (flat_map records_of l)) out_is ∙ ap (sum_by h) (flat_map-append records_of put ended) in
        omega (
          arith,
          same,
          balanced,
          out,
          sum_by-append h of.done (flat_map records_of taken),
          sum_by-append h (flat_map records_of put) (flat_map records_of ended),
        )

    module _ (records : List Record) (are : SameItems (flat_map records_of share.ended.items) records) where
      pub whole_worked : HaveWorked befores desks records
      whole_worked = worked_as befores desks of.done records (λ h. all_records h ∙ are h) of.worked

      pub whole_served : (calls : List Call) → share.calls.put ≡ calls → AreServed (AreShort desks) calls records
      whole_served calls is = record {
        by_call = share.ended.items;
        each = of.ended;
        calls_are = λ h. all_calls h ∙ ap (sum_by h) is;
        records_are = are;
      }
