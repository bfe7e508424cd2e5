use Rattle.std.specs.Prelude.{◌≡◌, ℕ, List, IfSome, slice_get, true}
use Rattle.xbar_moves.specs.Exchange.{is_idle}
use Rattle.xbar_fabric.specs.Views.{DeskView, FabricView, IsDeskOf}

-- idle desks of these shared words, each at the index of its marker
abbrev pub AreInOrder : List DeskView → FabricView → Type 0
AreInOrder desks fabric = (k : ℕ) → IfSome (slice_get desks k)
    (λ desk. IsDeskOf desk fabric × (desk.marker ≡ k) × (is_idle desk.work ≡ true))
