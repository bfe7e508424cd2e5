-- if all desks of a fabric began with no records, the records by which they have grown are its
-- history
use Rattle.std.proofs.Common.{◌≡◌, ℕ, zero, suc, ◌+◌, ◌<◌, Bool, true, false, List, [], ◌∷◌, inl, inr, sym, refl, ap, ◌∙◌, subst, arith, length, sum_by, All}
use Rattle.std.proofs.Common.{◌==◌, IfSome, if◌then◌else◌, slice_get}
use Rattle.std.proofs.{Math.Dec.{eqb-suc-suc, eqb-suc-zero, eqb-zero-suc}, lemmas.List.Sums.{sum_by-append, sum_by-cons}}
use Rattle.{turns.specs.{Among.IsIn, World.Idle}, fair_queue.specs.Items.SameItems, xbar_office.specs.declared.reply.Record.Record}
use Rattle.{xbar_moves.specs.{Kinds.takes, declared.kinds.Kind.Kind}, xbar_fabric.specs.Views.{DeskView, FabricView, new_desks, own}}
use Rattle.xbar_markers.specs.Work.{WorkerHasWorked, HaveWorked}

-- whether n is k or more
abbrev at_least : ℕ → ℕ → Bool
at_least zero n = true
at_least (suc k) zero = false
at_least (suc k) (suc n) = at_least k n

below_least : (k n : ℕ) → n < k → at_least k n ≡ false
below_least zero n below = absurd (omega (arith, below))
below_least (suc k) zero below = refl
below_least (suc k) (suc n) below = below_least k n (omega (arith, below))

-- a record's weight, if its marker is k or a later one
abbrev from : ℕ → (Record → ℕ) → Record → ℕ
from k h r = if at_least k r.marker then h r else 0

-- either it is k, or a later one
split : (k n weight : ℕ) → (if at_least k n then weight else 0) ≡ (if n == k then weight else 0) + (if at_least (suc k) n then weight else 0)
split zero zero weight = omega arith
split zero (suc n) weight =
    let other : (if suc n == 0 then weight else 0) ≡ 0 = ap (λ (b : Bool). if b then weight else 0) (eqb-suc-zero n) in
    omega (arith, other)
split (suc k) zero weight =
    let other : (if 0 == suc k then weight else 0) ≡ 0 = ap (λ (b : Bool). if b then weight else 0) (eqb-zero-suc k) in
    omega (arith, other)
split (suc k) (suc n) weight =
    let same : (if suc n == suc k then weight else 0) ≡ (if n == k then weight else 0) = ap (λ (b : Bool). if b then weight else 0) (eqb-suc-suc n k) in
    let rest = split k n weight in
    omega (arith, same, rest)

abbrev behind : Bool → Record → List Record → List Record
behind is r rest = if is then r ∷ rest else rest

own_weight : (h : Record → ℕ) (is : Bool) (r : Record) (rest : List Record) → sum_by h (behind is r rest) ≡ (if is then h r else 0) + sum_by h rest
own_weight h true r rest = sum_by-cons h r rest
own_weight h false r rest = omega arith

module _ (h : Record → ℕ) where
  -- what records weigh is what marker k's own weigh, and those of later ones
  parted : (k : ℕ) (records : List Record) → sum_by (from k h) records ≡ sum_by h (own k records) + sum_by (from (suc k) h) records
  parted k [] = refl
  parted k (r ∷ records) =
      let rest = parted k records in
      let one = split k r.marker (h r) in
      let its = own_weight h (r.marker == k) r (own k records) in
      omega (arith, rest, one, its, sum_by-cons (from k h) r records, sum_by-cons (from (suc k) h) r records)

  -- records of earlier markers weigh nothing
  none_left : (k : ℕ) (records : List Record) → ((r : Record) → IsIn r records → r.marker < k) → sum_by (from k h) records ≡ 0
  none_left k [] all = refl
  none_left k (r ∷ records) all =
      let first : from k h r ≡ 0 = ap (λ (b : Bool). if b then h r else 0) (below_least k r.marker (all r (inl refl))) in
      let rest = none_left k records (λ x within. all x (inr within)) in
      omega (arith, first, rest, sum_by-cons (from k h) r records)

  all_of : (records : List Record) → sum_by (from zero h) records ≡ sum_by h records
  all_of [] = refl
  all_of (r ∷ records) =
      let rest = all_of records in
      omega (arith, rest, sum_by-cons (from zero h) r records, sum_by-cons h r records)

module _ (fabric : FabricView) (history : List Record) where
  -- each desk's records in the history are its own, from marker k on
  abbrev AreTheirs : ℕ → List DeskView → Type 0
  AreTheirs k desks = (j : ℕ) → IfSome (slice_get desks j) (λ desk. own (k + j) history ≡ own (k + j) desk.seen)

  next_theirs : (k : ℕ) (d : DeskView) (desks : List DeskView) → AreTheirs k (d ∷ desks) → AreTheirs (suc k) desks
  next_theirs k d desks theirs j =
      subst (λ (n : ℕ). IfSome (slice_get desks j) (λ desk. own n history ≡ own n desk.seen)) (omega arith) (theirs (suc j))

  -- a desk that began with none has just these
  here_is : (k : ℕ) (kind : Kind) (d : DeskView) (its : List Record)
      → WorkerHasWorked (record { table = fabric.table; plan = fabric.plan; marker = k; kind = kind; work = Idle; seen = [] }) d its
      → own (k + 0) history ≡ own (k + 0) d.seen → own (k + 0) history ≡ its
  here_is k kind d its worked theirs =
      let marker : d.marker ≡ k + 0 = ap (λ (x : DeskView). x.marker) worked.same ∙ omega arith in
      theirs ∙ sym (ap (λ (n : ℕ). own n d.seen) marker) ∙ worked.mine_are

  module _ (h : Record → ℕ) where
    weighs : (k : ℕ) (kinds : List Kind) (desks : List DeskView) (records : List Record) → HaveWorked (new_desks fabric k kinds) desks records
        → AreTheirs k desks
        → ((r : Record) → IsIn r history → r.marker < k + length desks) → sum_by h records ≡ sum_by (from k h) history
    weighs k [] [] records worked theirs all =
        let none = none_left h k history (λ r within. let below = all r within in omega (arith, below)) in
        let same = worked h in
        omega (arith, none, same)
    weighs k [] (d ∷ desks) records worked theirs all = absurd worked
    weighs k (kind ∷ kinds) [] records worked theirs all = absurd worked
    weighs k (kind ∷ kinds) (d ∷ desks) records worked theirs all =
        let its = worked.0 in
        let both = worked.2 h in
        let here : own k history ≡ its = subst (λ (n : ℕ). own n history ≡ its) (omega arith) (here_is k kind d its worked.3 (theirs 0)) in
        let others =
        weighs (suc k) kinds desks worked.1 worked.4 (next_theirs k d desks theirs) (λ r within. let below = all r within in omega (arith, below)) in
        let one = ap (sum_by h) here in
        omega (arith, both, others, one, parted h k history, sum_by-append h its worked.1)

-- a run from the opening of a fabric to its shutting
module _ (fabric : FabricView) (history : List Record) where
  abbrev AreAllTheirs : List DeskView → Type 0
  AreAllTheirs desks = (k : ℕ) → IfSome (slice_get desks k) (λ desk. own k history ≡ own k desk.seen)

  from_first : (desks : List DeskView) → AreAllTheirs desks → AreTheirs fabric history 0 desks
  from_first desks theirs j =
      subst (λ (n : ℕ). IfSome (slice_get desks j) (λ desk. own n history ≡ own n desk.seen)) (omega arith) (theirs j)

  pub is_history : (kinds : List Kind) (desks : List DeskView) (records : List Record) → HaveWorked (new_desks fabric 0 kinds) desks records
      → AreAllTheirs desks
      → ((r : Record) → IsIn r history → r.marker < length desks) → SameItems history records
  is_history kinds desks records worked theirs all h =
      sym (weighs fabric history h 0 kinds desks records worked (from_first desks theirs) (λ r within. let below = all r within in omega (arith, below))
      ∙ all_of h history)

  taken_from : (k : ℕ) (kinds : List Kind) (desks : List DeskView) (records : List Record) → HaveWorked (new_desks fabric k kinds) desks records
      → AreTheirs fabric history k desks
      → (j : ℕ) → IfSome (slice_get kinds j) (λ kind. All (λ r. takes kind r.job ≡ true) (own (k + j) history))
  taken_from k [] desks records worked theirs j = tt
  taken_from k (kind ∷ kinds) [] records worked theirs j = absurd worked
  taken_from k (kind ∷ kinds) (d ∷ desks) records worked theirs zero =
      subst (λ (l : List Record). All (λ r. takes kind r.job ≡ true) l) (sym (here_is fabric history k kind d worked.0 worked.3 (theirs 0))) worked.3.taken
  taken_from k (kind ∷ kinds) (d ∷ desks) records worked theirs (suc j) =
      subst (λ (n : ℕ). IfSome (slice_get kinds j) (λ kind. All (λ r. takes kind r.job ≡ true) (own n history))) (omega arith)
      (taken_from (suc k) kinds desks worked.1 worked.4 (next_theirs fabric history k d desks theirs) j)

  pub are_taken : (kinds : List Kind) (desks : List DeskView) (records : List Record) → HaveWorked (new_desks fabric 0 kinds) desks records → AreAllTheirs desks
      → (k : ℕ) → IfSome (slice_get kinds k) (λ kind. All (λ r. takes kind r.job ≡ true) (own k history))
  are_taken kinds desks records worked theirs k =
      subst (λ (n : ℕ). IfSome (slice_get kinds k) (λ kind. All (λ r. takes kind r.job ≡ true) (own n history))) (omega arith)
      (taken_from 0 kinds desks records worked (from_first desks theirs) k)
