-- Shares that are joined, and the first share of a desk.
use Rattle.std.proofs.Common.{◌≡◌, ℕ, ◌+◌, ◌<◌, ◌^◌, List, [], ◌∷◌, ◌++◌, All, length, map, flat_map, sum_by, refl, sym, ap, ◌∙◌, arith, true, append-nil}
use Rattle.std.proofs.lemmas.List.{map-append, Elements.{All-append, All-cons, All-head, All-nil, All-same, All-tail, All-weaker}, Sums.sum_by-append}
use Rattle.{std.proofs.lemmas.Grind.flat_map-append, fair_queue.specs.{Items.SameItems, Tickets.{QueueName, new_ticket, ticket_of_both}}}
use Rattle.{xbar_moves.specs.{Exchange.is_idle, Kinds.takes}, xbar_fabric.specs.Views.DeskView, xbar_office.specs.declared.reply.Record.Record}
use Rattle.xbar_markers.specs.{Calls.{HasDialTone, IsServed, records_of}, Shares.{IsBalanced, IsShareOf, in_task, in_tasks, out_of, Share}, Work.AreShort}
use Rattle.xbar_markers.{specs.{Work.HaveWorked, declared.{call.Call.Call, call_records.CallRecords.CallRecords}, Tasks.Task}, proofs.Serving.weaker_served}

-- the same work, with its records in another order
same_work : (befores desks : List DeskView) (records more : List Record) → SameItems records more
    → HaveWorked befores desks records → HaveWorked befores desks more
same_work [] [] records more same worked = λ h. worked h ∙ same h
same_work [] (d ∷ ds) records more same worked = absurd worked
same_work (b ∷ bs) [] records more same worked = absurd worked
same_work (b ∷ bs) (d ∷ ds) records more same worked =
    (worked.0, worked.1, λ h. worked.2 h ∙ same h, worked.3, worked.4)

-- the work of some desks and of others is the work of all of them
both_work : (befores desks more_befores more_desks : List DeskView) (records more : List Record)
    → HaveWorked befores desks records → HaveWorked more_befores more_desks more
    → HaveWorked (befores ++ more_befores) (desks ++ more_desks) (records ++ more)
both_work [] [] more_befores more_desks records more none worked =
    same_work more_befores more_desks more (records ++ more)
    (λ h. let nothing = none h in omega (arith, sum_by-append h records more)) worked
both_work [] (d ∷ desks) more_befores more_desks records more none worked = absurd none
both_work (b ∷ befores) [] more_befores more_desks records more none worked = absurd none
both_work (b ∷ befores) (d ∷ desks) more_befores more_desks records more first worked =
    let its = first.0 in
    let others = first.1 in (
      its,
      others ++ more,
      λ h.
          let same = first.2 h in
          omega (
            arith,
            sum_by-append h its (others ++ more),
            sum_by-append h others more,
            sum_by-append h its others,
            sum_by-append h records more,
          ),
      first.3,
      both_work befores desks more_befores more_desks others more first.4 worked,
    )

-- this share is what two others become
pub record IsJoined (one other whole : Share) : Type 0 where
  pub calls : whole.calls ≡ ticket_of_both one.calls other.calls
  pub tasks : whole.tasks ≡ ticket_of_both one.tasks other.tasks
  pub kept : whole.kept.items ≡ one.kept.items ++ other.kept.items
  pub ended : whole.ended.items ≡ one.ended.items ++ other.ended.items

-- by any weight that lists have by their items, the calls of two shares weigh what the joined
-- share's do
module _ (weigh : List CallRecords → ℕ)
    (add : (xs ys : List CallRecords) → weigh (xs ++ ys) ≡ weigh xs + weigh ys) where
  weigh_tasks : (xs ys : List Task)
      → weigh (in_tasks (xs ++ ys)) ≡ weigh (in_tasks xs) + weigh (in_tasks ys)
  weigh_tasks xs ys = ap weigh (flat_map-append in_task xs ys) ∙ add (in_tasks xs) (in_tasks ys)

  weigh_out : (share : Share) → weigh (out_of share)
      ≡ (weigh (in_tasks share.tasks.put) + weigh share.kept.items) + weigh share.ended.items
  weigh_out share =
      add (in_tasks share.tasks.put ++ share.kept.items) share.ended.items
      ∙ ap (λ n. n + weigh share.ended.items) (add (in_tasks share.tasks.put) share.kept.items)

  module _ (one other whole : Share) (joined : IsJoined one other whole) where
    weigh_taken : weigh (in_tasks whole.tasks.taken)
        ≡ weigh (in_tasks one.tasks.taken) + weigh (in_tasks other.tasks.taken)
    weigh_taken =
        ap (λ t. weigh (in_tasks t.taken)) joined.tasks
        ∙ weigh_tasks one.tasks.taken other.tasks.taken

    weigh_both : weigh (out_of whole) ≡ weigh (out_of one) + weigh (out_of other)
    weigh_both =
        let put =
        ap (λ t. weigh (in_tasks t.put)) joined.tasks
        ∙ weigh_tasks one.tasks.put other.tasks.put in
        let kept = ap weigh joined.kept ∙ add one.kept.items other.kept.items in
        let ended = ap weigh joined.ended ∙ add one.ended.items other.ended.items in
        omega (arith, weigh_out one, weigh_out other, weigh_out whole)

-- what the calls of these weigh, and what their records do
module _ (h : Call → ℕ) where
  abbrev calls_weight : List CallRecords → ℕ
  calls_weight calls = sum_by h (map (λ c. c.call) calls)

  add_calls : (xs ys : List CallRecords)
      → calls_weight (xs ++ ys) ≡ calls_weight xs + calls_weight ys
  add_calls xs ys =
      ap (sum_by h) (map-append (λ c. c.call) xs ys)
      ∙ sum_by-append h (map (λ c. c.call) xs) (map (λ c. c.call) ys)

module _ (h : Record → ℕ) where
  abbrev records_weight : List CallRecords → ℕ
  records_weight calls = sum_by h (flat_map records_of calls)

  add_records : (xs ys : List CallRecords)
      → records_weight (xs ++ ys) ≡ records_weight xs + records_weight ys
  add_records xs ys =
      ap (sum_by h) (flat_map-append records_of xs ys)
      ∙ sum_by-append h (flat_map records_of xs) (flat_map records_of ys)

-- if nothing is lost in each of two shares, nothing is lost in the joined share
both_balanced : (done more : List Record) (one other whole : Share) → IsJoined one other whole
    → IsBalanced done one → IsBalanced more other → IsBalanced (done ++ more) whole
both_balanced done more one other whole joined first second =
    let came = λ (share : Share). map (λ c. c.call) (in_tasks share.tasks.taken) in
    let records = λ (share : Share). flat_map records_of (in_tasks share.tasks.taken) in
    record {
      calls = λ h.
          let mine = first.calls h in
          let theirs = second.calls h in
          let taken =
          ap (λ t. sum_by h t.taken) joined.calls
          ∙ sum_by-append h one.calls.taken other.calls.taken in
          let from_tasks = weigh_taken (calls_weight h) (add_calls h) one other whole joined in
          let out = weigh_both (calls_weight h) (add_calls h) one other whole joined in
          omega (
            arith,
            sum_by-append h one.calls.taken (came one),
            sum_by-append h other.calls.taken (came other),
            sum_by-append h whole.calls.taken (came whole),
          );
      records = λ h.
          let mine = first.records h in
          let theirs = second.records h in
          let from_tasks = weigh_taken (records_weight h) (add_records h) one other whole joined in
          let out = weigh_both (records_weight h) (add_records h) one other whole joined in
          omega (
            arith,
            sum_by-append h done more,
            sum_by-append h done (records one),
            sum_by-append h more (records other),
            sum_by-append h (done ++ more) (records whole),
          );
    }

-- what is so of each of two lists' elements is so of each one's
module _ {X : Type 0} (P : X → Type 0) where
  all_left : (xs ys : List X) → All P (xs ++ ys) → All P xs
  all_left [] ys each = All-nil P
  all_left (x ∷ xs) ys each =
      All-cons P x xs (All-head P x (xs ++ ys) each)
      (all_left xs ys (All-tail P x (xs ++ ys) each))

  all_right : (xs ys : List X) → All P (xs ++ ys) → All P ys
  all_right [] ys each = each
  all_right (x ∷ xs) ys each = all_right xs ys (All-tail P x (xs ++ ys) each)

-- the share of the work of some desks, joined to that of others, is that of all of them
pub joined_share : (befores desks more_befores more_desks : List DeskView)
    (one other whole : Share) → IsJoined one other whole → IsShareOf befores desks one
    → IsShareOf more_befores more_desks other
    → IsShareOf (befores ++ more_befores) (desks ++ more_desks) whole
joined_share befores desks more_befores more_desks one other whole joined mine theirs =
    let short = λ (desk : DeskView). length desk.seen < 2 ^ 64 in
    let mine_ended =
    All-weaker (IsServed (AreShort desks)) (IsServed (AreShort (desks ++ more_desks)))
    (λ c. weaker_served (all_left short desks more_desks)) one.ended.items mine.ended in
    let their_ended =
    All-weaker (IsServed (AreShort more_desks)) (IsServed (AreShort (desks ++ more_desks)))
    (λ c. weaker_served (all_right short desks more_desks)) other.ended.items theirs.ended in
    record {
      done = mine.done ++ theirs.done;
      worked =
          both_work befores desks more_befores more_desks mine.done theirs.done mine.worked
          theirs.worked;
      balanced =
          both_balanced mine.done theirs.done one other whole joined mine.balanced theirs.balanced;
      kept =
          All-same HasDialTone whole.kept.items _ joined.kept
          (All-append HasDialTone one.kept.items other.kept.items mine.kept theirs.kept);
      ended =
          All-same (IsServed (AreShort (desks ++ more_desks))) whole.ended.items _ joined.ended
          (All-append (IsServed (AreShort (desks ++ more_desks))) one.ended.items other.ended.items
          mine_ended their_ended);
    }

-- an idle desk has done no work yet, and nothing came to its share
pub first_share : (desk : DeskView) (share : Share) (calls : QueueName Call)
    (tasks : QueueName Task) → is_idle desk.work ≡ true → share.calls ≡ new_ticket calls
    → share.tasks ≡ new_ticket tasks
    → share.kept.items ≡ [] → share.ended.items ≡ []
    → IsShareOf (desk ∷ []) (desk ∷ []) share
first_share desk share calls tasks idle calls_are tasks_are kept ended =
    let nothing_in : in_tasks share.tasks.taken ≡ [] = ap (λ t. in_tasks t.taken) tasks_are in
    let nothing_put : in_tasks share.tasks.put ≡ [] = ap (λ t. in_tasks t.put) tasks_are in
    let nothing_out : out_of share ≡ [] = λ i. nothing_put i ++ kept i ++ ended i in
    record {
      done = [];
      worked = (
        [],
        [],
        λ h. refl,
        record {
          same = refl;
          idle = idle;
          seen = ([], sym (append-nil desk.seen));
          mine_are = sym (append-nil _);
          taken = All-nil (λ r. takes desk.kind r.job ≡ true);
        },
        λ h. refl,
      );
      balanced = record {
        calls = λ h.
            ap (λ (z : List Call × List CallRecords). sum_by h (z.0 ++ map (λ c. c.call) z.1))
            (λ i. (ap (λ t. t.taken) calls_are i, nothing_in i))
            ∙ sym (ap (λ l. sum_by h (map (λ c. c.call) l)) nothing_out);
        records = λ h.
            ap (λ l. sum_by h (flat_map records_of l)) nothing_in
            ∙ sym (ap (λ l. sum_by h (flat_map records_of l)) nothing_out);
      };
      kept = All-same HasDialTone share.kept.items [] kept (All-nil HasDialTone);
      ended =
          All-same (IsServed (AreShort (desk ∷ []))) share.ended.items [] ended
          (All-nil (IsServed (AreShort (desk ∷ []))));
    }
