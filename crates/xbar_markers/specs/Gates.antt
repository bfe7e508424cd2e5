-- gates, each of one marker
use Rattle.std.specs.Prelude.{ℕ, ◌<◌, List, get_or, length}
use Rattle.xbar_fabric.specs.Views.{DeskView}

module _ {G : Type 0} (IsAt : G → ℕ → Type 0) where
  -- gate i is for marker i
  abbrev pub AreForMarkers : List G → Type 0
  AreForMarkers gates = (i : ℕ) (gate : G) → i < length gates → IsAt (get_or gates i gate) i

  -- gate i is for the marker of desk i
  abbrev pub AreForDesks : List G → List DeskView → Type 0
  AreForDesks gates desks = (i : ℕ) (gate : G) (desk : DeskView) → i < length gates
      → i < length desks → IsAt (get_or gates i gate) (get_or desks i desk).marker
