-- desks that are shut together, and the desks below them
use Rattle.std.proofs.Common.{◌≡◌, ℕ, zero, suc, ◌<◌, true, List, [], ◌∷◌, ◌++◌, length, map, refl, sym, ◌∙◌, ap, inl, inr, subst, IfSome, Option, Some, None}
use Rattle.std.proofs.Common.{slice_get}
use Rattle.{std.specs.Prelude.⊤, turns.specs.Among.IsIn, desks.specs.Parts.Begins, xbar_plan.specs.Tables.Tables, xbar_office.specs.declared.job.Job.Job}
use Rattle.{xbar_office.specs.declared.reply.{Record.Record, Reply.Reply}, xbar_jobs.specs.Office.{ShowsOffice, office}, xbar_moves.specs.Exchange.is_idle}
use Rattle.xbar_fabric.specs.{Meetings.{AreAllIdle, FabricHasClosed}, Views.{AreBelow, DeskView, FabricView, IsDeskOf, RoomDesk, entered, own, view_at}}
use Rattle.xbar_fabric.proofs.{Meets.{after_entered, words_after}, Offices.{Order, begins_entered, is_history, own_same}, ToldSteps.free_idle}
use Rattle.xbar_fabric.proofs.UnusedWords.{unused_word}
use Rattle.turns.specs.World as worlds
use Rattle.desks.specs.Met as desks
use Rattle.desks.specs.Parts as parts

-- a desk below and one above are at the same place
abbrev pub IsPair : Option RoomDesk → Option DeskView → Type 0
IsPair None None = ⊤
IsPair (Some d) (Some desk) = view_at desk.kind d ≡ desk
IsPair _ _ = ⊥

pub pair_at : (below : List RoomDesk) (all : List DeskView) → AreBelow below all → (k : ℕ) → IsPair (slice_get below k) (slice_get all k)
pair_at [] [] are k = tt
pair_at [] (desk ∷ all) are k = absurd are
pair_at (d ∷ below) [] are k = absurd are
pair_at (d ∷ below) (desk ∷ all) are zero = are.0
pair_at (d ∷ below) (desk ∷ all) are (suc k) = pair_at below all are.1 k

pub as_many : (below : List RoomDesk) (all : List DeskView) → AreBelow below all → length below ≡ length all
as_many [] [] are = refl
as_many [] (desk ∷ all) are = absurd are
as_many (d ∷ below) [] are = absurd are
as_many (d ∷ below) (desk ∷ all) are = ap suc (as_many below all are.1)

pub below_more : (below : List RoomDesk) (all : List DeskView) (d : RoomDesk) (desk : DeskView) → AreBelow below all → view_at desk.kind d ≡ desk
    → AreBelow (below ++ d ∷ []) (all ++ desk ∷ [])
below_more [] [] d desk are is = (is, tt)
below_more [] (x ∷ all) d desk are is = absurd are
below_more (e ∷ below) [] d desk are is = absurd are
below_more (e ∷ below) (x ∷ all) d desk are is = (are.0, below_more below all d desk are.1 is)

module _ (plan : Tables) (fabric : FabricView) (same_plan : fabric.plan ≡ plan) where
  -- idle desks are idle below
  idle_at : (k : ℕ) (below : Option RoomDesk) (above : Option DeskView) → IsPair below above
      → IfSome above (λ desk. IsDeskOf desk fabric × (desk.marker ≡ k) × (is_idle desk.work ≡ true))
      → IfSome below (λ d. desks.IsIdleDesk (office plan) fabric.table plan k d)
  idle_at k None None pair idle = tt
  idle_at k None (Some desk) pair idle = absurd pair
  idle_at k (Some d) None pair idle = absurd pair
  idle_at k (Some d) (Some desk) pair idle = record {
    number_is = ap (λ (x : DeskView). x.marker) pair ∙ idle.1;
    table_is = ap (λ (x : DeskView). x.table) pair ∙ idle.0.table_is;
    setting_is = ap (λ (x : DeskView). x.plan) pair ∙ idle.0.plan_is ∙ same_plan;
    idle = sym (free_idle plan d.actor) ∙ ap (λ (x : DeskView). is_idle x.work) pair ∙ idle.2;
  }

  pub are_idle : (below : List RoomDesk) (all : List DeskView) → AreBelow below all → AreAllIdle all fabric
      → desks.AreIdle (office plan) fabric.table plan below
  are_idle below all are idle k = idle_at k (slice_get below k) (slice_get all k) (pair_at below all are k) (idle.each k)

module _ (plan : Tables) where
  -- what was seen below was seen
  each_at : (k : ℕ) (order : Order) (below : Option RoomDesk) (above : Option DeskView) → IsPair below above
      → IfSome below (λ d. Begins d.seen order × (parts.own k order ≡ parts.own k d.seen))
      → IfSome above (λ desk. Begins desk.seen (map entered order) × (own k (map entered order) ≡ own k desk.seen))
  each_at k order None None pair each = tt
  each_at k order None (Some desk) pair each = absurd pair
  each_at k order (Some d) None pair each = absurd pair
  each_at k order (Some d) (Some desk) pair each =
      subst (λ (x : DeskView). Begins x.seen (map entered order) × (own k (map entered order) ≡ own k x.seen)) pair
      (begins_entered d.seen order each.0, own_same k d.seen order each.1)

  theirs_entered : (n : ℕ) (order : Order) → ((r : worlds.Record Job Reply) → IsIn r order → r.actor < n) → (r : Record) → IsIn r (map entered order)
      → r.marker < n
  theirs_entered n [] all r within = absurd within
  theirs_entered n (x ∷ order) all r (inl same) = subst (λ (y : Record). y.marker < n) (sym same) (all x (inl refl))
  theirs_entered n (x ∷ order) all r (inr later) = theirs_entered n order (λ y among. all y (inr among)) r later

  pub has_closed : (below : List RoomDesk) (all : List DeskView) (words : List ℕ) → AreBelow below all → desks.HasClosed (office plan) below words
      → FabricHasClosed plan all words
  has_closed below all words are closed =
      let ended = closed.ended in
      record {
        records = map entered closed.order;
        history = is_history plan closed.order ended.legal;
        theirs = λ r within. subst (λ (n : ℕ). r.marker < n) (as_many below all are) (theirs_entered (length below) closed.order ended.theirs r within);
        each = λ k. each_at k closed.order (slice_get below k) (slice_get all k) (pair_at below all are k) (closed.each k);
        words_are = words_after plan closed.order words ended.size ended.are_words ended.counted (λ _. ended.shows);
        unused = λ conn there. unused_word _ (ended.unused conn there);
        shows = subst (ShowsOffice plan words) (after_entered plan closed.order) ended.shows;
      }
