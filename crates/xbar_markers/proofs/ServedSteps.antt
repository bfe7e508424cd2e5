-- How a share goes over each step of a worker: a call is dialled, or completed; a stop is taken.
use Rattle.std.proofs.Common.{◌≡◌, ◌∙◌, ℕ, ◌+◌, List, [], ◌∷◌, ◌++◌, All, true, false, Option, IsSomeAnd, MatchOption, append-nil, sym, ap, subst, ⊎_elim}
use Rattle.std.proofs.Common.{arith, sum_by, option_to_list}
use Rattle.std.proofs.lemmas.List.{Sums.{sum_by-append, sum_by-cons, sum_by_push}, Elements.{All-cons, All-nil, All-push}}
use Rattle.{fair_queue.specs.Tickets.{TicketView, with_taken}, xbar_office.specs.declared.{job.Job.TheVariants.{Complete, Release}, reply.Record.Record}}
use Rattle.{xbar_moves.specs.Exchange.is_idle, xbar_fabric.specs.Views.DeskView, xbar_markers.specs.Calls.{Follows, HasDialTone, IsDialled, IsLater}}
use Rattle.xbar_markers.specs.{Calls.{IsRecordOf, IsServed, IsToRelease, is_connected, is_dial_tone}, Shares.{HasCompleted, HasPassedOn, HasServed, Share}}
use Rattle.xbar_markers.specs.{Work.{AreShort, WorkerHasWorked}, declared.{call.Call.Call, call_records.CallRecords.CallRecords}, Tasks.Task}
use Rattle.xbar_markers.proofs.{Balances.{HasMoved, IsMade, balanced_on, left, on_call, on_records, on_task}, Serving.has_served, Works.none_worked}
use Rattle.xbar_markers.specs.declared.task.Task.TheVariants as task

-- a call came through the first queue, and nothing else changed
pub record HasTakenCall (call : Call) (share after : Share) : Type 0 where
  pub calls : after.calls ≡ with_taken share.calls call
  pub tasks : after.tasks ≡ share.tasks
  pub kept : after.kept.items ≡ share.kept.items
  pub ended : after.ended.items ≡ share.ended.items

-- a task came through the second queue, and nothing else changed
pub record HasTakenTask (it : Task) (share after : Share) : Type 0 where
  pub calls : after.calls ≡ share.calls
  pub tasks : after.tasks ≡ with_taken share.tasks it
  pub kept : after.kept.items ≡ share.kept.items
  pub ended : after.ended.items ≡ share.ended.items

-- all is done for a call, and nothing else changed
pub record HasEnded (c : CallRecords) (share after : Share) : Type 0 where
  pub calls : after.calls ≡ share.calls
  pub tasks : after.tasks ≡ share.tasks
  pub kept : after.kept.items ≡ share.kept.items
  pub ended : after.ended.items ≡ share.ended.items ++ c ∷ []

-- what is passed on or kept is out once more
passed_out : (h : CallRecords → ℕ) (c : CallRecords) (share after : Share)
    → HasPassedOn c share after → left h after ≡ left h share + h c
passed_out h c share after passed =
    let ended = ap (sum_by h) passed.ended in
    ⊎_elim
    (λ (went : (after.kept.items ≡ share.kept.items) × (after.tasks.put ≡ share.tasks.put ++ task.Complete c ∷ [])).
    let kept = ap (sum_by h) went.0 in
    let put = ap (sum_by (on_task h)) went.1 in
    omega (arith, sum_by_push (on_task h) share.tasks.put (task.Complete c)))
    (λ (went : (after.kept.items ≡ share.kept.items ++ c ∷ []) × (after.tasks.put ≡ share.tasks.put)).
    let kept = ap (sum_by h) went.0 in
    let put = ap (sum_by (on_task h)) went.1 in
    omega (arith, sum_by_push h share.kept.items c)) passed.went

-- and so is what has ended
pub ended_out : (h : CallRecords → ℕ) (c : CallRecords) (share after : Share)
    → HasEnded c share after → left h after ≡ left h share + h c
ended_out h c share after e =
    let put = ap (λ (t : TicketView Task). sum_by (on_task h) t.put) e.tasks in
    let kept = ap (sum_by h) e.kept in
    let ended = ap (sum_by h) e.ended in
    omega (arith, sum_by_push h share.ended.items c)

taken_call_out : (h : CallRecords → ℕ) (call : Call) (share after : Share)
    → HasTakenCall call share after → left h after ≡ left h share
taken_call_out h call share after e =
    let put = ap (λ (t : TicketView Task). sum_by (on_task h) t.put) e.tasks in
    let kept = ap (sum_by h) e.kept in
    let ended = ap (sum_by h) e.ended in
    omega arith

taken_task_out : (h : CallRecords → ℕ) (it : Task) (share after : Share)
    → HasTakenTask it share after → left h after ≡ left h share
taken_task_out h it share after e =
    let put = ap (λ (t : TicketView Task). sum_by (on_task h) t.put) e.tasks in
    let kept = ap (sum_by h) e.kept in
    let ended = ap (sum_by h) e.ended in
    omega arith

-- a call of which a job is done has that job's record alone
dialled_records : (w : Record → ℕ) (c : CallRecords) → IsDialled c
    → on_records w c ≡ w c.dial
dialled_records w c d =
    let rest = option_to_list c.complete ++ option_to_list c.release in
    let complete = ap (λ (o : Option Record). sum_by w (option_to_list o)) d.no_complete in
    let release = ap (λ (o : Option Record). sum_by w (option_to_list o)) d.no_release in
    omega (arith, sum_by-cons w c.dial rest, sum_by-append w (option_to_list c.complete) (option_to_list c.release))

dialled_made : (call : Call) (c : CallRecords) → c.call ≡ call → IsDialled c
    → IsMade (c.dial ∷ []) (call ∷ []) [] [] (c ∷ [])
dialled_made call c is d = record {
  calls_are = λ w. let e = ap w is in omega (arith, sum_by-cons w call [], sum_by-cons (on_call w) c []);
  records_are = λ w.
      omega (arith, dialled_records w c d, sum_by-cons w c.dial [], sum_by-cons (on_records w) c []);
}

-- for a call whose line got no dial tone all is done
undialled_served : {short : Type 0} {c : CallRecords} → IsDialled c
    → is_dial_tone c.dial.reply.end ≡ false → IsServed short c
undialled_served {short} {c} d no_tone = record {
  dialled = d.dialled;
  completed = subst (λ (o : Option Record). MatchOption o
      (is_dial_tone c.dial.reply.end ≡ false)
      (λ r. (is_dial_tone c.dial.reply.end ≡ true)
      × IsRecordOf c.call 1 (Complete c.call.line c.call.digits) r × IsLater short c.dial r)) (sym d.no_complete) no_tone;
  released = subst (λ (o : Option Record). MatchOption o (¬ IsToRelease c)
      (λ r. IsToRelease c × IsRecordOf c.call 2 (Release c.call.line) r
      × IsSomeAnd c.complete (Follows short r))) (sym d.no_release)
      (λ to. subst (λ (o : Option Record). IsSomeAnd o (λ r. is_connected r.reply.end ≡ true))
      d.no_complete to.1);
}

-- a call was dialled, and passed on or kept
pub dialled_passed : (before after : DeskView) (call : Call) (c : CallRecords)
    (share between share_after : Share) → HasTakenCall call share between
    → HasPassedOn c between share_after → c.call ≡ call → HasDialTone c
    → WorkerHasWorked before after (c.dial ∷ []) → HasServed before share after share_after
dialled_passed before after call c share between share_after taken passed is tone worked =
    let moved : HasMoved (call ∷ []) [] [] (c ∷ []) share share_after = record {
      calls_taken = ap (λ (t : TicketView Call). t.taken) (passed.calls ∙ taken.calls);
      tasks_taken = passed.taken
          ∙ (ap (λ (t : TicketView Task). t.taken) taken.tasks ∙ sym (append-nil share.tasks.taken));
      out = λ h.
          omega (arith, passed_out h c between share_after passed, taken_call_out h call share between taken, sum_by-cons h c []);
    } in
    has_served before after share share_after (c.dial ∷ []) [] worked
    (balanced_on moved (dialled_made call c is tone.dialled))
    (λ kept. ⊎_elim
    (λ (went : (share_after.kept.items ≡ between.kept.items) × (share_after.tasks.put ≡ between.tasks.put ++ task.Complete c ∷ [])).
    subst (All HasDialTone) (sym (went.0 ∙ taken.kept)) kept)
    (λ (went : (share_after.kept.items ≡ between.kept.items ++ c ∷ []) × (share_after.tasks.put ≡ between.tasks.put)).
    subst (All HasDialTone) (sym (went.0 ∙ ap (λ (l : List CallRecords). l ++ c ∷ []) taken.kept))
    (All-push HasDialTone share.kept.items c kept tone)) passed.went)
    (passed.ended ∙ (taken.ended ∙ sym (append-nil share.ended.items)))
    (All-nil (IsServed (AreShort (after ∷ []))))

-- a call was dialled, and its line got no dial tone
pub dialled_ended : (before after : DeskView) (call : Call) (c : CallRecords)
    (share between share_after : Share) → HasTakenCall call share between
    → HasEnded c between share_after → c.call ≡ call → IsDialled c
    → is_dial_tone c.dial.reply.end ≡ false → WorkerHasWorked before after (c.dial ∷ [])
    → HasServed before share after share_after
dialled_ended before after call c share between share_after taken ended is dialled no_tone worked =
    let served = IsServed (AreShort (after ∷ [])) in
    let moved : HasMoved (call ∷ []) [] [] (c ∷ []) share share_after = record {
      calls_taken = ap (λ (t : TicketView Call). t.taken) (ended.calls ∙ taken.calls);
      tasks_taken = ap (λ (t : TicketView Task). t.taken) (ended.tasks ∙ taken.tasks)
          ∙ sym (append-nil share.tasks.taken);
      out = λ h.
          omega (arith, ended_out h c between share_after ended, taken_call_out h call share between taken, sum_by-cons h c []);
    } in
    has_served before after share share_after (c.dial ∷ []) (c ∷ []) worked
    (balanced_on moved (dialled_made call c is dialled))
    (λ kept. subst (All HasDialTone) (sym (ended.kept ∙ taken.kept)) kept)
    (ended.ended ∙ ap (λ (l : List CallRecords). l ++ c ∷ []) taken.ended)
    (All-cons served c [] (undialled_served dialled no_tone) (All-nil served))

-- the records that are new once a call is completed
pub completed_records : (w : Record → ℕ) (before after : DeskView) (c served : CallRecords)
    → HasDialTone c → HasCompleted before after c served
    → sum_by w (option_to_list served.complete ++ option_to_list served.release)
    + on_records w c ≡ on_records w served
completed_records w before after c served tone done =
    let rest = option_to_list served.complete ++ option_to_list served.release in
    let e = ap w done.dial_is in
    omega (arith, dialled_records w c tone.dialled, sum_by-cons w served.dial rest)

-- a task was completed
pub task_completed : (before after : DeskView) (c served : CallRecords)
    (share between share_after : Share) → HasTakenTask (task.Complete c) share between
    → HasEnded served between share_after → HasDialTone c → HasCompleted before after c served
    → HasServed before share after share_after
task_completed before after c served share between share_after taken ended tone done =
    let its = option_to_list served.complete ++ option_to_list served.release in
    let short = IsServed (AreShort (after ∷ [])) in
    let moved : HasMoved [] (task.Complete c ∷ []) [] (served ∷ []) share share_after = record {
      calls_taken = ap (λ (t : TicketView Call). t.taken) (ended.calls ∙ taken.calls)
          ∙ sym (append-nil share.calls.taken);
      tasks_taken = ap (λ (t : TicketView Task). t.taken) (ended.tasks ∙ taken.tasks);
      out = λ h.
          omega (arith, ended_out h served between share_after ended, taken_task_out h (task.Complete c) share between taken, sum_by-cons h served []);
    } in
    let made : IsMade its [] (task.Complete c ∷ []) [] (served ∷ []) = record {
      calls_are = λ w.
          let e = ap w done.call_is in
          omega (arith, sum_by-cons (on_task (on_call w)) (task.Complete c) [], sum_by-cons (on_call w) served []);
      records_are = λ w.
          omega (
            arith,
            completed_records w before after c served tone done,
            sum_by-cons (on_task (on_records w)) (task.Complete c) [],
            sum_by-cons (on_records w) served [],
          );
    } in
    has_served before after share share_after its (served ∷ []) done.worked
    (balanced_on moved made)
    (λ kept. subst (All HasDialTone) (sym (ended.kept ∙ taken.kept)) kept)
    (ended.ended ∙ ap (λ (l : List CallRecords). l ++ served ∷ []) taken.ended)
    (All-cons short served [] done.served_all (All-nil short))

-- a stop was taken
pub stop_taken : (d : DeskView) (share share_after : Share)
    → HasTakenTask task.Stop share share_after → is_idle d.work ≡ true
    → HasServed d share d share_after
stop_taken d share share_after taken idle =
    let moved : HasMoved [] (task.Stop ∷ []) [] [] share share_after = record {
      calls_taken = ap (λ (t : TicketView Call). t.taken) taken.calls
          ∙ sym (append-nil share.calls.taken);
      tasks_taken = ap (λ (t : TicketView Task). t.taken) taken.tasks;
      out = λ h. omega (arith, taken_task_out h task.Stop share share_after taken);
    } in
    let made : IsMade [] [] (task.Stop ∷ []) [] [] = record {
      calls_are = λ w. omega (arith, sum_by-cons (on_task (on_call w)) task.Stop []);
      records_are = λ w. omega (arith, sum_by-cons (on_task (on_records w)) task.Stop []);
    } in
    has_served d d share share_after [] [] (none_worked idle) (balanced_on moved made)
    (λ kept. subst (All HasDialTone) (sym taken.kept) kept)
    (taken.ended ∙ sym (append-nil share.ended.items))
    (All-nil (IsServed (AreShort (d ∷ []))))
