-- desks that have worked are still idle desks by kind, as before
use Rattle.std.proofs.Common.{◌≡◌, ℕ, zero, suc, true, List, [], ◌∷◌, All, map, length, ap, ◌∙◌, arith, refl, IfSome, slice_get}
use Rattle.{xbar_office.specs.declared.reply.Record.Record, xbar_moves.specs.{Exchange.is_idle, declared.kinds.Kind.Kind}}
use Rattle.xbar_fabric.specs.{Meetings.AreAllIdle, Views.{DeskView, FabricView, IsDeskOf}}
use Rattle.xbar_markers.specs.{DesksByKind.AreDesksByKind, Work.{WorkerHasWorked, HaveWorked, IsReady}}

abbrev kind_of : DeskView → Kind
kind_of desk = desk.kind

same_kinds : (befores desks : List DeskView) (records : List Record) → HaveWorked befores desks records → map kind_of desks ≡ map kind_of befores
same_kinds [] [] records worked = refl
same_kinds [] (d ∷ desks) records worked = absurd worked
same_kinds (b ∷ befores) [] records worked = absurd worked
same_kinds (b ∷ befores) (d ∷ desks) records worked =
    ap (λ (k : Kind). k ∷ map kind_of desks) (ap kind_of worked.3.same) ∙ ap (λ (l : List Kind). kind_of b ∷ l) (same_kinds befores desks worked.1 worked.4)

as_many : (befores desks : List DeskView) (records : List Record) → HaveWorked befores desks records → length desks ≡ length befores
as_many [] [] records worked = refl
as_many [] (d ∷ desks) records worked = absurd worked
as_many (b ∷ befores) [] records worked = absurd worked
as_many (b ∷ befores) (d ∷ desks) records worked = ap suc (as_many befores desks worked.1 worked.4)

module _ (fabric : FabricView) where
  still_its : (before after : DeskView) (its : List Record) → WorkerHasWorked before after its → IsDeskOf before fabric → IsDeskOf after fabric
  still_its before after its worked was = record {
    table_is = ap (λ (x : DeskView). x.table) worked.same ∙ was.table_is;
    plan_is = ap (λ (x : DeskView). x.plan) worked.same ∙ was.plan_is;
  }

  ready_again : (befores desks : List DeskView) (records : List Record) → HaveWorked befores desks records → All (λ desk. IsReady desk fabric) befores
      → All (λ desk. IsReady desk fabric) desks
  ready_again [] [] records worked ready i e below = absurd (omega (arith, below))
  ready_again [] (d ∷ desks) records worked ready i e below = absurd worked
  ready_again (b ∷ befores) [] records worked ready i e below = absurd worked
  ready_again (b ∷ befores) (d ∷ desks) records worked ready zero e below =
      record { desk_of = still_its b d worked.0 worked.3 (ready zero b (omega arith)).desk_of; idle = worked.3.idle }
  ready_again (b ∷ befores) (d ∷ desks) records worked ready (suc i) e below =
      ready_again befores desks worked.1 worked.4 (λ n x within. ready (suc n) x (omega (arith, within))) i e (omega (arith, below))

  abbrev IsThereAt : ℕ → DeskView → Type 0
  IsThereAt place desk = IsDeskOf desk fabric × (desk.marker ≡ place) × (is_idle desk.work ≡ true)

  there_again : (befores desks : List DeskView) (records : List Record) (place : ℕ → ℕ) → HaveWorked befores desks records
      → ((i : ℕ) → IfSome (slice_get befores i) (IsThereAt (place i))) → (i : ℕ) → IfSome (slice_get desks i) (IsThereAt (place i))
  there_again [] [] records place worked there i = tt
  there_again [] (d ∷ desks) records place worked there i = absurd worked
  there_again (b ∷ befores) [] records place worked there i = absurd worked
  there_again (b ∷ befores) (d ∷ desks) records place worked there zero =
      let was = there zero in (still_its b d worked.0 worked.3 was.0, ap (λ (x : DeskView). x.marker) worked.3.same ∙ was.1, worked.3.idle)
  there_again (b ∷ befores) (d ∷ desks) records place worked there (suc i) =
      there_again befores desks worked.1 (λ n. place (suc n)) worked.4 (λ n. there (suc n)) i

  pub by_kind_again : (befores desks : List DeskView) (records : List Record) → HaveWorked befores desks records → AreDesksByKind befores fabric
      → AreDesksByKind desks fabric
  by_kind_again befores desks records worked by_kind = record {
    dialling = by_kind.dialling;
    completing = by_kind.completing;
    kinds = same_kinds befores desks records worked ∙ by_kind.kinds;
    some_dial = by_kind.some_dial;
    some_complete = by_kind.some_complete;
    ready = ready_again befores desks records worked by_kind.ready;
  }

  pub idle_again : (befores desks : List DeskView) (records : List Record) → HaveWorked befores desks records → AreAllIdle befores fabric
      → AreAllIdle desks fabric
  idle_again befores desks records worked idle = record {
    count = as_many befores desks records worked ∙ idle.count;
    each = there_again befores desks records (λ n. n) worked idle.each;
  }
