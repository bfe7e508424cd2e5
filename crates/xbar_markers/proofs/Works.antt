-- What desks have worked: a job more, other items of the same weights, more desks.
use Rattle.std.proofs.Common.{◌≡◌, ◌∙◌, ℕ, zero, suc, ◌<◌, ◌^◌, List, [], ◌∷◌, ◌++◌, All, Some, None, true, slice_get, slice_set, length, append-nil}
use Rattle.std.proofs.Common.{append_assoc, length-append, sym, refl, ap, subst, arith, sum_by}
use Rattle.{std.proofs.lemmas.List.{Sums.sum_by-append, Elements.{All-append, All-cons, All-head, All-nil, All-tail}}, fair_queue.specs.Items.SameItems}
use Rattle.{desks.specs.Parts.Begins, xbar_office.specs.declared.{job.Job.Job, reply.Record.Record}}
use Rattle.{xbar_moves.specs.{Exchange.is_idle, Kinds.takes, declared.kinds.Kind.Kind}, xbar_fabric.specs.Views.{DeskView, FabricView, mine}}
use Rattle.xbar_markers.specs.Work.{AreShort, HasDone, WorkerHasWorked, HaveWorked, IsReady}

-- the record's job is one that this kind takes
abbrev IsTaken : Kind → Record → Type 0
IsTaken kind r = takes kind r.job ≡ true

-- a job that is done is work, of which this is the record
pub done_worked : {before after : DeskView} {number : ℕ} {job : Job} {r : Record}
    → HasDone before after number job r → takes before.kind job ≡ true
    → WorkerHasWorked before after (r ∷ [])
done_worked {before} {after} {number} {job} {r} done taken = record {
  same = done.same;
  idle = done.idle;
  seen = done.seen;
  mine_are = done.mine_are;
  taken = All-cons (IsTaken before.kind) r []
      (subst (λ (j : Job). takes before.kind j ≡ true) (sym done.job_is) taken)
      (All-nil (IsTaken before.kind));
}

-- an order that begins with another begins with what that begins with
pub begins_on : {A : Type 0} (a b c : List A) → Begins a b → Begins b c → Begins a c
begins_on {A} a b c first second = (
  first.0 ++ second.0,
  second.1 ∙ (ap (λ (l : List A). l ++ second.0) first.1 ∙ append_assoc a first.0 second.0),
)

-- work, and then other work
pub worked_on : {a b c : DeskView} {xs ys : List Record} → WorkerHasWorked a b xs → WorkerHasWorked b c ys
    → WorkerHasWorked a c (xs ++ ys)
worked_on {a} {b} {c} {xs} {ys} first second = record {
  same = second.same
      ∙ ap (λ (d : DeskView). record d { work = c.work; seen = c.seen }) first.same;
  idle = second.idle;
  seen = begins_on a.seen b.seen c.seen first.seen second.seen;
  mine_are = second.mine_are
      ∙ (ap (λ (l : List Record). l ++ ys) first.mine_are ∙ append_assoc (mine a) xs ys);
  taken = All-append (IsTaken a.kind) xs ys first.taken
      (subst (λ (kind : Kind). All (IsTaken kind) ys) (ap (λ (d : DeskView). d.kind) first.same)
      second.taken);
}

-- a desk that has worked is of the same shared words and kind
pub kind_worked : {d after : DeskView} {its : List Record} → WorkerHasWorked d after its
    → after.kind ≡ d.kind
kind_worked worked = ap (λ (x : DeskView). x.kind) worked.same

pub ready_worked : {d after : DeskView} {its : List Record} {fabric : FabricView}
    → WorkerHasWorked d after its → IsReady d fabric → IsReady after fabric
ready_worked worked ready = record {
  desk_of = record {
    table_is = ap (λ (x : DeskView). x.table) worked.same ∙ ready.desk_of.table_is;
    plan_is = ap (λ (x : DeskView). x.plan) worked.same ∙ ready.desk_of.plan_is;
  };
  idle = worked.idle;
}

-- no work
pub none_worked : {d : DeskView} → is_idle d.work ≡ true → WorkerHasWorked d d []
none_worked {d} idle = record {
  same = refl;
  idle = idle;
  seen = ([], sym (append-nil d.seen));
  mine_are = sym (append-nil (mine d));
  taken = All-nil (IsTaken d.kind);
}

pub same_on : {X : Type 0} (xs ys zs : List X) → SameItems xs ys → SameItems ys zs
    → SameItems xs zs
same_on xs ys zs first second h = first h ∙ second h

-- the order of the records of all desks doesn't matter
pub same_worked : (befores desks : List DeskView) (xs ys : List Record) → SameItems xs ys
    → HaveWorked befores desks xs → HaveWorked befores desks ys
same_worked [] [] xs ys same worked = same_on [] xs ys worked same
same_worked [] (d ∷ desks) xs ys same worked = absurd worked
same_worked (b ∷ befores) [] xs ys same worked = absurd worked
same_worked (b ∷ befores) (d ∷ desks) xs ys same worked = (
  worked.0,
  worked.1,
  same_on (worked.0 ++ worked.1) xs ys worked.2 same,
  worked.3,
  worked.4,
)

some_is : (d x : DeskView) → Some x ≡ Some d → x ≡ d
some_is d x at = cc

-- a desk among others works on
pub set_worked : (befores desks : List DeskView) (k : ℕ) (d after : DeskView)
    (own more : List Record) → slice_get desks k ≡ Some d → HaveWorked befores desks own
    → WorkerHasWorked d after more → HaveWorked befores (slice_set desks k after) (own ++ more)
set_worked [] [] k d after own more at worked on = absurd (none_some at)
  where
    none_some : None ≡ Some d → ⊥
    none_some e = cc
set_worked [] (x ∷ desks) k d after own more at worked on = absurd worked
set_worked (b ∷ befores) [] k d after own more at worked on = absurd worked
set_worked (b ∷ befores) (x ∷ desks) zero d after own more at worked on =
    let its = worked.0 in
    let others = worked.1 in
    let same : SameItems (its ++ others) own = worked.2 in
    let was : WorkerHasWorked b d its = subst (λ (y : DeskView). WorkerHasWorked b y its) (some_is d x at)
    worked.3 in (
      its ++ more,
      others,
      (λ h.
          let e = same h in
          omega (arith, sum_by-append h (its ++ more) others, sum_by-append h its more, sum_by-append h its others, sum_by-append h own more)),
      worked_on was on,
      worked.4,
    )
set_worked (b ∷ befores) (x ∷ desks) (suc k) d after own more at worked on =
    let its = worked.0 in
    let others = worked.1 in
    let same : SameItems (its ++ others) own = worked.2 in (
      its,
      others ++ more,
      (λ h.
          let e = same h in
          omega (arith, sum_by-append h its (others ++ more), sum_by-append h others more, sum_by-append h its others, sum_by-append h own more)),
      worked.3,
      set_worked befores desks k d after others more at worked.4 on,
    )

-- desks that have worked, and others after them
pub append_worked : (bs ds bs' ds' : List DeskView) (xs ys : List Record) → HaveWorked bs ds xs
    → HaveWorked bs' ds' ys → HaveWorked (bs ++ bs') (ds ++ ds') (xs ++ ys)
append_worked [] [] bs' ds' xs ys first second =
    same_worked bs' ds' ys (xs ++ ys) (λ h.
    let e : 0 ≡ sum_by h xs = first h in omega (arith, sum_by-append h xs ys)) second
append_worked [] (d ∷ ds) bs' ds' xs ys first second = absurd first
append_worked (b ∷ bs) [] bs' ds' xs ys first second = absurd first
append_worked (b ∷ bs) (d ∷ ds) bs' ds' xs ys first second =
    let its = first.0 in
    let others = first.1 in
    let same : SameItems (its ++ others) xs = first.2 in (
      its,
      others ++ ys,
      (λ h.
          let e = same h in
          omega (arith, sum_by-append h its (others ++ ys), sum_by-append h others ys, sum_by-append h its others, sum_by-append h xs ys)),
      first.3,
      append_worked bs ds bs' ds' others ys first.4 second,
    )

-- a desk that has seen fewer than 2^64 turns had seen no more before
abbrev pub IsShort : DeskView → Type 0
IsShort desk = length desk.seen < 2 ^ 64

pub short_begins : (d after : DeskView) → Begins d.seen after.seen
    → length after.seen < 2 ^ 64 → length d.seen < 2 ^ 64
short_begins d after seen short =
    let e = ap (λ (l : List Record). length l) seen.1 in
    omega (arith, length-append d.seen seen.0)

pub short_before : (desks : List DeskView) (k : ℕ) (d after : DeskView)
    → slice_get desks k ≡ Some d → Begins d.seen after.seen
    → AreShort (slice_set desks k after) → AreShort desks
short_before [] k d after at seen short = All-nil IsShort
short_before (x ∷ desks) zero d after at seen short =
    All-cons IsShort x desks
    (subst IsShort (sym (some_is d x at))
    (short_begins d after seen (All-head IsShort after desks short)))
    (All-tail IsShort after desks short)
short_before (x ∷ desks) (suc k) d after at seen short =
    All-cons IsShort x desks (All-head IsShort x (slice_set desks k after) short)
    (short_before desks k d after at seen (All-tail IsShort x (slice_set desks k after) short))

-- each of desks that are short is so alone
pub short_after : (desks : List DeskView) (k : ℕ) (d after : DeskView)
    → slice_get desks k ≡ Some d → AreShort (slice_set desks k after) → AreShort (after ∷ [])
short_after [] k d after at short = absurd (none_some at)
  where
    none_some : None ≡ Some d → ⊥
    none_some e = cc
short_after (x ∷ desks) zero d after at short =
    All-cons IsShort after [] (All-head IsShort after desks short) (All-nil IsShort)
short_after (x ∷ desks) (suc k) d after at short =
    short_after desks k d after at (All-tail IsShort x (slice_set desks k after) short)
