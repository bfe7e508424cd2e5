-- the desks of an opening, one more at a time
use Rattle.std.proofs.Common.{refl, ◌≡◌, ℕ, zero, suc, true, ◌+◌, ◌<◌, List, [], ◌∷◌, ◌++◌, length, get_or, drop, drop-cons, sym, ap, subst, ◌∙◌, arith}
use Rattle.std.proofs.Common.{append_assoc, IfSome, slice_get}
use Rattle.{xbar_plan.specs.Tables.Tables, xbar_moves.specs.{declared.kinds.Kind.{Kind, TheVariants.Dial}, Exchange.is_idle}}
use Rattle.xbar_fabric.specs.{Meetings.AreAllIdle, Views.{AreDesksOf, DeskView, FabricView, IsDeskOf, RoomDesk, new_desks, view_at}}
use Rattle.desks.specs.Views as views

-- the office's words as those of a room
abbrev pub fabric_of : views.RoomView Tables → FabricView
fabric_of room = record { table = room.table; plan = room.setting; count = room.count }

-- the desks of a room that has just opened, from number n on
abbrev pub AreFrom : views.RoomView Tables → ℕ → List RoomDesk → Type 0
AreFrom room n desks = (j : ℕ) → IfSome (slice_get desks j) (λ (d : RoomDesk). d ≡ views.new_desk room (n + j))

pub first_new : (room : views.RoomView Tables) (n : ℕ) (desk : RoomDesk) (desks : List RoomDesk) → AreFrom room n (desk ∷ desks) → desk ≡ views.new_desk room n
first_new room n desk desks are = let none : n + 0 ≡ n = omega arith in subst (λ (i : ℕ). desk ≡ views.new_desk room i) none (are 0)

pub later_new : (room : views.RoomView Tables) (n : ℕ) (desk : RoomDesk) (desks : List RoomDesk) → AreFrom room n (desk ∷ desks) → AreFrom room (n + 1) desks
later_new room n desk desks are j =
    let next : n + suc j ≡ n + 1 + j = omega arith in
    subst (λ (i : ℕ). IfSome (slice_get desks j) (λ (d : RoomDesk). d ≡ views.new_desk room i)) next (are (suc j))

pub built_more : (room : views.RoomView Tables) (kinds : List Kind) (i : ℕ) (desk : RoomDesk) (all more : List DeskView) → i < length kinds
    → desk ≡ views.new_desk room i
    → more ≡ all ++ view_at (get_or kinds i Dial) desk ∷ [] → all ++ new_desks (fabric_of room) i (drop i kinds) ≡ new_desks (fabric_of room) 0 kinds
    → more ++ new_desks (fabric_of room) (i + 1) (drop (i + 1) kinds) ≡ new_desks (fabric_of room) 0 kinds
built_more room kinds i desk all more within new pushed built =
    let kind : Kind = get_or kinds i Dial in
    let next : i + 1 ≡ suc i = omega arith in
    let rest : List DeskView = new_desks (fabric_of room) (suc i) (drop (suc i) kinds) in
    let here : drop i kinds ≡ get_or kinds i Dial ∷ drop (suc i) kinds = drop-cons kinds i Dial within in
    ap (λ (n : ℕ). more ++ new_desks (fabric_of room) n (drop n kinds)) next
    ∙ ap (λ (l : List DeskView). l ++ rest) pushed
    ∙ append_assoc all (view_at kind desk ∷ []) rest
    ∙ ap (λ d. all ++ view_at kind d ∷ rest) new
    ∙ ap (λ (l : List Kind). all ++ new_desks (fabric_of room) i l) (sym here)
    ∙ built

-- the desks of an opening are desks of its shared words
pub new_are_theirs : (fabric : FabricView) (n : ℕ) (kinds : List Kind) → AreDesksOf (new_desks fabric n kinds) fabric
new_are_theirs fabric n [] k = tt
new_are_theirs fabric n (kind ∷ kinds) zero = record { table_is = refl; plan_is = refl }
new_are_theirs fabric n (kind ∷ kinds) (suc k) = new_are_theirs fabric (suc n) kinds k

pub length-new_desks : (fabric : FabricView) (n : ℕ) (kinds : List Kind) → length (new_desks fabric n kinds) ≡ length kinds
length-new_desks fabric n [] = refl
length-new_desks fabric n (kind ∷ kinds) = ap suc (length-new_desks fabric (suc n) kinds)

-- each at the place of its marker
places : (fabric : FabricView) (n : ℕ) (kinds : List Kind) (k : ℕ)
    → IfSome (slice_get (new_desks fabric n kinds) k) (λ desk. IsDeskOf desk fabric × (desk.marker ≡ n + k) × (is_idle desk.work ≡ true))
places fabric n [] k = tt
places fabric n (kind ∷ kinds) zero = (record { table_is = refl; plan_is = refl }, omega arith, refl)
places fabric n (kind ∷ kinds) (suc k) =
    let next : suc n + k ≡ n + suc k = omega arith in
    subst (λ (m : ℕ). IfSome (slice_get (new_desks fabric (suc n) kinds) k) (λ desk. IsDeskOf desk fabric × (desk.marker ≡ m) × (is_idle desk.work ≡ true)))
    next (places fabric (suc n) kinds k)

pub new_are_idle : (fabric : FabricView) (kinds : List Kind) (desks : List DeskView) → desks ≡ new_desks fabric 0 kinds → fabric.count ≡ length kinds
    → AreAllIdle desks fabric
new_are_idle fabric kinds desks are count = record {
  count = ap (length {A = DeskView}) are ∙ length-new_desks fabric 0 kinds ∙ sym count;
  each = λ k.
      let first : 0 + k ≡ k = omega arith in
      rw are (subst (λ (m : ℕ). IfSome (slice_get (new_desks fabric 0 kinds) k) (λ desk. IsDeskOf desk fabric × (desk.marker ≡ m) × (is_idle desk.work ≡ true)))
      first (places fabric 0 kinds k));
}
