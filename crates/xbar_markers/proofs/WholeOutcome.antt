-- a run from the opening of a fabric to its shutting: its records are one legal history of just these calls
use Rattle.std.proofs.Common.{◌≡◌, ℕ, zero, suc, ◌<◌, ◌≤◌, ◌^◌, List, [], ◌∷◌, All, map, length, length-append, sym, refl, ap, ◌∙◌, subst, arith, get_or}
use Rattle.std.proofs.Common.{Contains, IfSome, Option, Some, None, slice_get}
use Rattle.{std.{proofs.lemmas.Option.slice_get-get_or, specs.{List.Sorted.IsNonDecreasingBy, Prelude.⊤}}, desks.specs.Parts.Begins}
use Rattle.{fair_queue.specs.Items.SameItems, xbar_plan.specs.Tables.Tables, xbar_office.specs.{Legal.{IsLegal, after}, declared.reply.Record.Record}}
use Rattle.{xbar_jobs.specs.Office.ShowsOffice, xbar_moves.specs.declared.kinds.Kind.Kind}
use Rattle.{xbar_fabric.specs.{Meetings.{AreWordsAfter, FabricHasClosed}, Views.{DeskView, FabricView, new_desks, own}}, xbar_markers.specs.Calls.AreServed}
use Rattle.xbar_markers.specs.{Outcomes.AreTaken, DesksByKind.{AreDesksByKind, kinds_of}, Work.{AreShort, HaveWorked, IsReady}, declared.call.Call.Call}
use Rattle.xbar_markers.proofs.{Serving.all_weaker_served, TurnOrder.in_turn_order, WholeHistory.{are_taken, is_history}}

module _ (fabric : FabricView) where
  -- new desks are of the kinds that were asked for, and idle
  kinds_new : (k : ℕ) (kinds : List Kind) → map (λ (d : DeskView). d.kind) (new_desks fabric k kinds) ≡ kinds
  kinds_new k [] = refl
  kinds_new k (kind ∷ kinds) = ap (λ (l : List Kind). kind ∷ l) (kinds_new (suc k) kinds)

  ready_new : (k : ℕ) (kinds : List Kind) → All (λ desk. IsReady desk fabric) (new_desks fabric k kinds)
  ready_new k [] i d below = absurd (omega (arith, below))
  ready_new k (kind ∷ kinds) zero d below = record { desk_of = record { table_is = refl; plan_is = refl }; idle = refl }
  ready_new k (kind ∷ kinds) (suc i) d below = ready_new (suc k) kinds i d (omega (arith, below))

  pub new_by_kind : (dialling completing : ℕ) (desks : List DeskView) (kinds : List Kind) → desks ≡ new_desks fabric 0 kinds
      → kinds ≡ kinds_of dialling completing → 0 < dialling → 0 < completing → AreDesksByKind desks fabric
  new_by_kind dialling completing desks kinds are of some_dial some_complete = record {
    dialling = dialling;
    completing = completing;
    kinds = ap (map (λ (d : DeskView). d.kind)) are ∙ kinds_new 0 kinds ∙ of;
    some_dial = some_dial;
    some_complete = some_complete;
    ready = subst (All (λ desk. IsReady desk fabric)) (sym are) (ready_new 0 kinds);
  }

  -- as many come back
  as_many : (k : ℕ) (kinds : List Kind) (desks : List DeskView) (records : List Record) → HaveWorked (new_desks fabric k kinds) desks records
      → length desks ≡ length kinds
  as_many k [] [] records worked = refl
  as_many k [] (d ∷ desks) records worked = absurd worked
  as_many k (kind ∷ kinds) [] records worked = absurd worked
  as_many k (kind ∷ kinds) (d ∷ desks) records worked = let rest = as_many (suc k) kinds desks worked.1 worked.4 in omega (arith, rest)

both_of : (o : Option DeskView) (P Q : DeskView → Type 0) → IfSome o (λ d. P d × Q d) → IfSome o Q
both_of None P Q it = tt
both_of (Some d) P Q it = it.1

begins_length : (xs ys : List Record) → Begins xs ys → length xs ≤ length ys
begins_length xs ys begins = let whole = ap (length {A = Record}) begins.1 in omega (arith, whole, length-append xs begins.0)

-- the run's records and what it was shut with
module _ (fabric : FabricView) (plan : Tables) (kinds : List Kind) (befores desks : List DeskView) (records : List Record) (words : List ℕ)
    (contained : (xs ys : List Record) (x : Record) → SameItems xs ys → Contains xs x → Contains ys x)
    (as_long : (xs ys : List Record) → SameItems xs ys → length xs ≡ length ys)
    (are : befores ≡ new_desks fabric 0 kinds) (worked : HaveWorked befores desks records) (order : IsNonDecreasingBy (λ (r : Record). r.turn) records)
    (few : length records < 2 ^ 64) (closed : FabricHasClosed plan desks words) where
  began : HaveWorked (new_desks fabric 0 kinds) desks records
  began = subst (λ (l : List DeskView). HaveWorked l desks records) are worked

  theirs : (k : ℕ) → IfSome (slice_get desks k) (λ desk. own k closed.records ≡ own k desk.seen)
  theirs k = both_of (slice_get desks k) (λ desk. Begins desk.seen closed.records) (λ desk. own k closed.records ≡ own k desk.seen) (closed.each k)

  same : SameItems closed.records records
  same = is_history fabric closed.records kinds desks records began theirs closed.theirs

  few_closed : length closed.records < 2 ^ 64
  few_closed = let long = as_long closed.records records same in omega (arith, few, long)

  legal_closed : IsLegal plan closed.records
  legal_closed = closed.history.legal few_closed

  -- they are the whole history
  are_all : records ≡ closed.records
  are_all = in_turn_order contained 0 records closed.records legal_closed.turns order same

  pub legal : IsLegal plan records
  legal = subst (IsLegal plan) (sym are_all) legal_closed

  pub words_after : AreWordsAfter plan records words
  words_after = subst (λ (l : List Record). AreWordsAfter plan l words) (sym are_all) closed.words_are

  pub shows_after : ShowsOffice plan words (after plan records)
  shows_after = subst (λ (l : List Record). ShowsOffice plan words (after plan l)) (sym are_all) closed.shows

  short_at : (i : ℕ) (d : DeskView) → i < length desks → slice_get desks i ≡ Some (get_or desks i d) → length (get_or desks i d).seen < 2 ^ 64
  short_at i d below there =
      let begins =
      subst (λ (o : Option DeskView). IfSome o (λ desk. Begins desk.seen closed.records × (own i closed.records ≡ own i desk.seen))) there (closed.each i) in
      let long = begins_length (get_or desks i d).seen closed.records begins.0 in
      let short = few_closed in
      omega (arith, long, short)

  shorts : AreShort desks
  shorts i d below = short_at i d below (slice_get-get_or desks i d below)

  pub served : (calls : List Call) → AreServed (AreShort desks) calls records → AreServed ⊤ calls records
  served calls it = record {
    by_call = it.by_call;
    each = all_weaker_served ⊤ (AreShort desks) it.by_call (λ any. shorts) it.each;
    calls_are = it.calls_are;
    records_are = it.records_are;
  }

  pub taken : AreTaken kinds records
  taken = subst (AreTaken kinds) (sym are_all) record {
    theirs = λ r within. let below = closed.theirs r within in let count = as_many fabric 0 kinds desks records began in omega (arith, below, count);
    each = are_taken fabric closed.records kinds desks records began theirs;
  }
