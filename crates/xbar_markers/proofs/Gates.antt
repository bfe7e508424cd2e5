-- gates and desks that are taken one after another, and gates of new desks
use Rattle.std.proofs.Common.{◌≡◌, ℕ, zero, suc, ◌+◌, ◌<◌, List, [], ◌∷◌, arith, get_or, length, sym, ◌∙◌, subst}
use Rattle.{xbar_moves.specs.declared.kinds.Kind.Kind, xbar_fabric.specs.Views.{DeskView, FabricView, new_desks}}
use Rattle.xbar_markers.specs.Gates.{AreForDesks, AreForMarkers}

-- each of the new desks is at the index of its marker
marker_at : (fabric : FabricView) (k : ℕ) (kinds : List Kind) (i : ℕ) (d : DeskView) → i < length (new_desks fabric k kinds)
    → (get_or (new_desks fabric k kinds) i d).marker ≡ k + i
marker_at fabric k [] i d below = absurd (omega (arith, below))
marker_at fabric k (kind ∷ kinds) zero d below = omega arith
marker_at fabric k (kind ∷ kinds) (suc i) d below =
    let later = marker_at fabric (suc k) kinds i d (omega (arith, below)) in
    omega (arith, later)

module _ {G : Type 0} (IsAt : G → ℕ → Type 0) where
  abbrev Both : List G × List DeskView → Type 0
  Both p = AreForDesks IsAt p.0 p.1

  all_of : (gates more : List G) (desks others : List DeskView) (gate : G) (desk : DeskView) → gates ≡ gate ∷ more → desks ≡ desk ∷ others
      → AreForDesks IsAt gates desks → AreForDesks IsAt (gate ∷ more) (desk ∷ others)
  all_of gates more desks others gate desk gates_are desks_are are = subst Both (λ i. (gates_are i, desks_are i)) are

  -- the first gate is for the first desk's marker
  pub first_for : (gates more : List G) (desks others : List DeskView) (gate : G) (desk : DeskView) → gates ≡ gate ∷ more → desks ≡ desk ∷ others
      → AreForDesks IsAt gates desks → IsAt gate desk.marker
  first_for gates more desks others gate desk gates_are desks_are are =
      all_of gates more desks others gate desk gates_are desks_are are 0 gate desk (omega arith) (omega arith)

  -- and the others are for the other desks' markers
  pub others_for : (gates more : List G) (desks others : List DeskView) (gate : G) (desk : DeskView) → gates ≡ gate ∷ more → desks ≡ desk ∷ others
      → AreForDesks IsAt gates desks → AreForDesks IsAt more others
  others_for gates more desks others gate desk gates_are desks_are are i g d below within =
      all_of gates more desks others gate desk gates_are desks_are are (suc i) g d (omega (arith, below)) (omega (arith, within))

  -- gates for markers are for the markers of new desks
  pub for_new : (fabric : FabricView) (kinds : List Kind) (gates : List G) (desks : List DeskView) → desks ≡ new_desks fabric 0 kinds → AreForMarkers IsAt gates
      → AreForDesks IsAt gates desks
  for_new fabric kinds gates desks new are =
      subst (AreForDesks IsAt gates) (sym new) (λ i gate desk below within.
      let here : i ≡ (get_or (new_desks fabric 0 kinds) i desk).marker = sym (marker_at fabric 0 kinds i desk within ∙ omega arith) in
      subst (IsAt (get_or gates i gate)) here (are i gate below))
