-- an office's markers as the actors of its world
use Rattle.std.proofs.Common.{◌≡◌, ◌≢◌, ℕ, zero, suc, ◌<◌, List, [], ◌∷◌, length, map, refl, sym, ap, arith, Some, None, slice_get, slice_set}
use Rattle.{std.proofs.lemmas.Option.{none-some, same_Some}, xbar_moves.specs.Exchange.{Marker, Work}}
use mathlib.Core.Option.{some, some-injective, some-ne-none}
use lib.ListN.{get_elem?}

-- the marker that an item of a list of actors is
pub record StandsFor (markers : List Marker) (k : ℕ) (work : Work) : Type 0 where
  pub marker : Marker
  pub there : slice_get markers k ≡ Some marker
  pub at : marker.work ≡ work

abbrev pub works : List Marker → List Work
works markers = map (λ m. m.work) markers

-- marker k is actor k
pub actor_there : (markers : List Marker) (k : ℕ) (m : Marker) → slice_get markers k ≡ Some m → get_elem? (works markers) k ≡ some m.work
actor_there [] k m e = absurd (none-some m e)
actor_there (n ∷ markers) zero m e = ap (λ (o : Marker). some o.work) (same_Some n m e)
actor_there (n ∷ markers) (suc k) m e = actor_there markers k m e

-- actor k is marker k
pub marker_there : (markers : List Marker) (k : ℕ) (work : Work) → get_elem? (works markers) k ≡ some work → StandsFor markers k work
marker_there [] k work e = absurd (some-ne-none work (sym e))
marker_there (m ∷ markers) zero work e = record { marker = m; there = refl; at = some-injective m.work work e }
marker_there (m ∷ markers) (suc k) work e = let found = marker_there markers k work e in record { marker = found.marker; there = found.there; at = found.at }

-- a marker that is set is an actor that is set
pub works_set : (markers : List Marker) (k : ℕ) (m : Marker) → works (slice_set markers k m) ≡ slice_set (works markers) k m.work
works_set [] k m = refl
works_set (n ∷ markers) zero m = refl
works_set (n ∷ markers) (suc k) m = ap (λ (all : List Work). n.work ∷ all) (works_set markers k m)

-- with one marker set, it is the one there, and all others are as before
pub marker_set : (markers : List Marker) (k : ℕ) (m was : Marker) → slice_get markers k ≡ Some was → slice_get (slice_set markers k m) k ≡ Some m
marker_set [] k m was e = absurd (none-some was e)
marker_set (n ∷ markers) zero m was e = refl
marker_set (n ∷ markers) (suc k) m was e = marker_set markers k m was e

pub marker_else : (markers : List Marker) (k j : ℕ) (m : Marker) → j ≢ k → slice_get (slice_set markers k m) j ≡ slice_get markers j
marker_else [] k j m other = refl
marker_else (n ∷ markers) zero zero m other = absurd (other refl)
marker_else (n ∷ markers) zero (suc j) m other = refl
marker_else (n ∷ markers) (suc k) zero m other = refl
marker_else (n ∷ markers) (suc k) (suc j) m other = marker_else markers k j m (λ e. other (ap suc e))

-- a marker that is set to what it is
pub marker_same : (markers : List Marker) (k : ℕ) (m : Marker) → slice_get markers k ≡ Some m → slice_set markers k m ≡ markers
marker_same [] k m e = refl
marker_same (n ∷ markers) zero m e = ap (λ (o : Marker). o ∷ markers) (sym (same_Some n m e))
marker_same (n ∷ markers) (suc k) m e = ap (λ (all : List Marker). n ∷ all) (marker_same markers k m e)

-- below their number there is a marker at each place
pub none_within : (markers : List Marker) (k : ℕ) → k < length markers → slice_get markers k ≡ None → ⊥
none_within [] k within none = omega arith
none_within (m ∷ markers) zero within none = none-some m (sym none)
none_within (m ∷ markers) (suc k) within none = none_within markers k (omega arith) none
