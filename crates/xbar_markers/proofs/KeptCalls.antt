-- How a share goes over the calls that were kept, one by one.
use Rattle.std.proofs.Common.{◌≡◌, ◌∙◌, ℕ, ◌+◌, List, [], ◌∷◌, ◌++◌, All, Some, true, append-nil, sym, refl, ap, subst, arith, sum_by, option_to_list}
use Rattle.{std.proofs.lemmas.List.{Sums.{sum_by-cons, sum_by_push}, Elements.{All-cons, All-nil, All-pop}}, fair_queue.specs.Tickets.TicketView}
use Rattle.{xbar_moves.specs.Exchange.is_idle, xbar_fabric.specs.Views.DeskView, xbar_markers.specs.Calls.{HasDialTone, IsServed}}
use Rattle.xbar_markers.specs.{Shares.{HasCompleted, HasServed, Share}, Work.AreShort, declared.{call.Call.Call, call_records.CallRecords.CallRecords}}
use Rattle.xbar_markers.{specs.Tasks.Task, proofs.Balances.{HasMoved, IsMade, balanced_on, left, on_call, on_records, on_task}}
use Rattle.xbar_markers.proofs.{ServedSteps.{HasEnded, completed_records, ended_out}, Serving.has_served, Works.none_worked}

-- the last call that was kept was taken out, and nothing else changed
pub record HasTakenKept (c : CallRecords) (share after : Share) : Type 0 where
  pub calls : after.calls ≡ share.calls
  pub tasks : after.tasks ≡ share.tasks
  pub kept : share.kept.items ≡ after.kept.items ++ c ∷ []
  pub ended : after.ended.items ≡ share.ended.items

taken_kept_out : (h : CallRecords → ℕ) (c : CallRecords) (share after : Share)
    → HasTakenKept c share after → left h after + h c ≡ left h share
taken_kept_out h c share after e =
    let put = ap (λ (t : TicketView Task). sum_by (on_task h) t.put) e.tasks in
    let kept = ap (sum_by h) e.kept in
    let ended = ap (sum_by h) e.ended in
    omega (arith, sum_by_push h after.kept.items c)

-- a call that was kept was completed
pub kept_completed : (before after : DeskView) (c served : CallRecords)
    (share between share_after : Share) → HasTakenKept c share between
    → HasEnded served between share_after → HasDialTone c → HasCompleted before after c served
    → HasServed before share after share_after
kept_completed before after c served share between share_after taken ended tone done =
    let its = option_to_list served.complete ++ option_to_list served.release in
    let short = IsServed (AreShort (after ∷ [])) in
    let moved : HasMoved [] [] (c ∷ []) (served ∷ []) share share_after = record {
      calls_taken = ap (λ (t : TicketView Call). t.taken) (ended.calls ∙ taken.calls)
          ∙ sym (append-nil share.calls.taken);
      tasks_taken = ap (λ (t : TicketView Task). t.taken) (ended.tasks ∙ taken.tasks)
          ∙ sym (append-nil share.tasks.taken);
      out = λ h.
          omega (arith, ended_out h served between share_after ended, taken_kept_out h c share between taken, sum_by-cons h served [], sum_by-cons h c []);
    } in
    let made : IsMade its [] [] (c ∷ []) (served ∷ []) = record {
      calls_are = λ w.
          let e = ap w done.call_is in
          omega (arith, sum_by-cons (on_call w) c [], sum_by-cons (on_call w) served []);
      records_are = λ w.
          omega (arith, completed_records w before after c served tone done, sum_by-cons (on_records w) c [], sum_by-cons (on_records w) served []);
    } in
    has_served before after share share_after its (served ∷ []) done.worked
    (balanced_on moved made)
    (λ kept. subst (All HasDialTone) (sym ended.kept)
    (kept_left (subst (All HasDialTone) taken.kept kept)))
    (ended.ended ∙ ap (λ (l : List CallRecords). l ++ served ∷ []) taken.ended)
    (All-cons short served [] done.served_all (All-nil short))
  where
    kept_left : All HasDialTone (between.kept.items ++ c ∷ []) → All HasDialTone between.kept.items
    kept_left all = (All-pop HasDialTone (between.kept.items ++ c ∷ []) between.kept.items (Some c) refl all).0

pub left_tone : (c : CallRecords) (share after : Share) → HasTakenKept c share after
    → All HasDialTone share.kept.items → (All HasDialTone after.kept.items) × HasDialTone c
left_tone c share after taken kept =
    All-pop HasDialTone share.kept.items after.kept.items (Some c) taken.kept kept

pub nothing_left : (calls after : List CallRecords) → calls ≡ after ++ [] → after ≡ calls
nothing_left calls after is = sym (is ∙ append-nil after)

-- a share with the same tickets and the same calls is as good
pub served_same : (d : DeskView) (share after : Share) → is_idle d.work ≡ true
    → after.calls ≡ share.calls → after.tasks ≡ share.tasks
    → after.kept.items ≡ share.kept.items → after.ended.items ≡ share.ended.items
    → HasServed d share d after
served_same d share after idle calls tasks kept ended =
    let moved : HasMoved [] [] [] [] share after = record {
      calls_taken = ap (λ (t : TicketView Call). t.taken) calls ∙ sym (append-nil share.calls.taken);
      tasks_taken = ap (λ (t : TicketView Task). t.taken) tasks ∙ sym (append-nil share.tasks.taken);
      out = λ h.
          let put = ap (λ (t : TicketView Task). sum_by (on_task h) t.put) tasks in
          let kept_weigh = ap (sum_by h) kept in
          let ended_weigh = ap (sum_by h) ended in
          omega arith;
    } in
    let made : IsMade [] [] [] [] [] = record {
      calls_are = λ w. refl;
      records_are = λ w. refl;
    } in
    has_served d d share after [] [] (none_worked idle) (balanced_on moved made)
    (λ all. subst (All HasDialTone) (sym kept) all)
    (ended ∙ sym (append-nil share.ended.items))
    (All-nil (IsServed (AreShort (d ∷ []))))
