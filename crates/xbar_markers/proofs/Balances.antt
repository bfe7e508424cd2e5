-- That nothing is lost and nothing comes twice, by weights, and how it goes over what a worker does.
use Rattle.std.proofs.Common.{◌≡◌, ℕ, ◌+◌, List, [], ◌∷◌, ◌++◌, flat_map, map, refl, ap, arith, sum_by}
use Rattle.{std.proofs.lemmas.List.Sums.{sum_by-append, sum_by-cons}, fair_queue.proofs.Weights.sum_by-flat_map, xbar_office.specs.declared.reply.Record.Record}
use Rattle.xbar_markers.specs.{Calls.records_of, Shares.{IsBalanced, in_tasks, out_of, Share}, declared.{call.Call.Call, call_records.CallRecords.CallRecords}}
use Rattle.xbar_markers.specs.Tasks.{Task}
use Rattle.xbar_markers.specs.declared.task.Task.TheVariants as task

-- a weight of calls with their records, as one of tasks
abbrev pub on_task : (CallRecords → ℕ) → Task → ℕ
on_task h (task.Complete c) = h c
on_task h task.Stop = 0

-- weights of calls, and of records, as weights of calls with their records
abbrev pub on_call : (Call → ℕ) → CallRecords → ℕ
on_call w c = w c.call

abbrev pub on_records : (Record → ℕ) → CallRecords → ℕ
on_records w c = sum_by w (records_of c)

pub in_tasks_weigh : (h : CallRecords → ℕ) (tasks : List Task)
    → sum_by h (in_tasks tasks) ≡ sum_by (on_task h) tasks
in_tasks_weigh h [] = refl
in_tasks_weigh h (task.Complete c ∷ tasks) =
    let rest = in_tasks_weigh h tasks in
    omega (arith, sum_by-cons h c (in_tasks tasks), sum_by-cons (on_task h) (task.Complete c) tasks)
in_tasks_weigh h (task.Stop ∷ tasks) =
    let rest = in_tasks_weigh h tasks in
    omega (arith, sum_by-cons (on_task h) task.Stop tasks)

calls_weigh : (w : Call → ℕ) (cs : List CallRecords)
    → sum_by w (map (λ c. c.call) cs) ≡ sum_by (on_call w) cs
calls_weigh w [] = refl
calls_weigh w (c ∷ cs) =
    let rest = calls_weigh w cs in
    omega (arith, sum_by-cons w c.call (map (λ c. c.call) cs), sum_by-cons (on_call w) c cs)

-- what the calls weigh that a share passed on or has
abbrev pub left : (CallRecords → ℕ) → Share → ℕ
left h share =
    sum_by (on_task h) share.tasks.put + (sum_by h share.kept.items + sum_by h share.ended.items)

out_weighs : (h : CallRecords → ℕ) (share : Share) → sum_by h (out_of share) ≡ left h share
out_weighs h share =
    let put = in_tasks share.tasks.put in
    let kept = share.kept.items in
    let ended = share.ended.items in
    omega (arith, sum_by-append h (put ++ kept) ended, sum_by-append h put kept, in_tasks_weigh h share.tasks.put)

-- a balance by weights
abbrev AreCallsLeft : Share → Type 0
AreCallsLeft share =
    (w : Call → ℕ) → sum_by w share.calls.taken + sum_by (on_task (on_call w)) share.tasks.taken
    ≡ left (on_call w) share

abbrev AreRecordsLeft : List Record → Share → Type 0
AreRecordsLeft done share =
    (w : Record → ℕ) → sum_by w done + sum_by (on_task (on_records w)) share.tasks.taken
    ≡ left (on_records w) share

calls_left : (done : List Record) (share : Share) → IsBalanced done share → AreCallsLeft share
calls_left done share balanced w =
    let e = balanced.calls w in
    omega (
      arith,
      sum_by-append w share.calls.taken (map (λ c. c.call) (in_tasks share.tasks.taken)),
      calls_weigh w (in_tasks share.tasks.taken),
      in_tasks_weigh (on_call w) share.tasks.taken,
      calls_weigh w (out_of share),
      out_weighs (on_call w) share,
    )

records_left : (done : List Record) (share : Share) → IsBalanced done share
    → AreRecordsLeft done share
records_left done share balanced w =
    let e = balanced.records w in
    omega (
      arith,
      sum_by-append w done (flat_map records_of (in_tasks share.tasks.taken)),
      sum_by-flat_map w records_of (in_tasks share.tasks.taken),
      in_tasks_weigh (on_records w) share.tasks.taken,
      sum_by-flat_map w records_of (out_of share),
      out_weighs (on_records w) share,
    )

balanced_by : (done : List Record) (share : Share) → AreCallsLeft share
    → AreRecordsLeft done share → IsBalanced done share
balanced_by done share calls records = record {
  calls = λ w.
      let e = calls w in
      omega (
        arith,
        sum_by-append w share.calls.taken (map (λ c. c.call) (in_tasks share.tasks.taken)),
        calls_weigh w (in_tasks share.tasks.taken),
        in_tasks_weigh (on_call w) share.tasks.taken,
        calls_weigh w (out_of share),
        out_weighs (on_call w) share,
      );
  records = λ w.
      let e = records w in
      omega (
        arith,
        sum_by-append w done (flat_map records_of (in_tasks share.tasks.taken)),
        sum_by-flat_map w records_of (in_tasks share.tasks.taken),
        in_tasks_weigh (on_records w) share.tasks.taken,
        sum_by-flat_map w records_of (out_of share),
        out_weighs (on_records w) share,
      );
}

-- these calls and tasks came to a share, and of the calls that it passed on or has these are gone
-- and those are new
pub record HasMoved (calls : List Call) (tasks : List Task) (gone come : List CallRecords)
    (share after : Share) : Type 0 where
  pub calls_taken : after.calls.taken ≡ share.calls.taken ++ calls
  pub tasks_taken : after.tasks.taken ≡ share.tasks.taken ++ tasks
  pub out : (h : CallRecords → ℕ) → left h after + sum_by h gone ≡ left h share + sum_by h come

-- what is new is what came and what is gone, and so are its records, together with these
pub record IsMade (its : List Record) (calls : List Call) (tasks : List Task)
    (gone come : List CallRecords) : Type 0 where
  pub calls_are : (w : Call → ℕ) →
      sum_by w calls + sum_by (on_task (on_call w)) tasks + sum_by (on_call w) gone
      ≡ sum_by (on_call w) come
  pub records_are : (w : Record → ℕ) →
      sum_by w its + sum_by (on_task (on_records w)) tasks + sum_by (on_records w) gone
      ≡ sum_by (on_records w) come

pub balanced_on : {its : List Record} {calls : List Call} {tasks : List Task}
    {gone come : List CallRecords} {share after : Share}
    → HasMoved calls tasks gone come share after → IsMade its calls tasks gone come
    → (done : List Record) → IsBalanced done share → IsBalanced (done ++ its) after
balanced_on {its} {calls} {tasks} {gone} {come} {share} {after} moved made done balanced =
    balanced_by (done ++ its) after
    (λ w.
    let was = calls_left done share balanced w in
    let out = moved.out (on_call w) in
    let is = made.calls_are w in
    let c = ap (sum_by w) moved.calls_taken in
    let t = ap (sum_by (on_task (on_call w))) moved.tasks_taken in
    omega (arith, sum_by-append w share.calls.taken calls, sum_by-append (on_task (on_call w)) share.tasks.taken tasks))
    (λ w.
    let was = records_left done share balanced w in
    let out = moved.out (on_records w) in
    let is = made.records_are w in
    let t = ap (sum_by (on_task (on_records w))) moved.tasks_taken in
    omega (arith, sum_by-append w done its, sum_by-append (on_task (on_records w)) share.tasks.taken tasks))
