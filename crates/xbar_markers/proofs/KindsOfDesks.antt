-- of which kinds the desks are that work on calls
use Rattle.std.proofs.Common.{◌≡◌, ℕ, zero, suc, ◌+◌, ◌<◌, ◌≤◌, List, [], ◌∷◌, map, length, ap, ◌∙◌, arith, refl, replicate, slice_index_or}
use native.Mathlib.Decide.{dec_lt}
use Rattle.{xbar_moves.specs.declared.kinds.Kind.{Kind, TheVariants.{Completing, Dial}}, xbar_fabric.specs.Views.DeskView}
use Rattle.xbar_markers.specs.DesksByKind.{kinds_of}

abbrev kind_of : DeskView → Kind
kind_of desk = desk.kind

-- all of these desks complete calls
all_completing : (count : ℕ) (desks : List DeskView) → map kind_of desks ≡ replicate count Completing
    → (length desks ≡ count) × ((i : ℕ) (e : DeskView) → i < count → (slice_index_or desks i e).kind ≡ Completing)
all_completing zero [] are = (refl, λ i e below. absurd (omega arith))
all_completing zero (d ∷ desks) are = absurd cc
all_completing (suc count) [] are = absurd cc
all_completing (suc count) (d ∷ desks) are =
    let first : d.kind ≡ Completing = cc in
    let rest = all_completing count desks cc in
    let one = rest.0 in
    (omega (arith, one), at first rest.1)
  where
    at : d.kind ≡ Completing → ((i : ℕ) (e : DeskView) → i < count → (slice_index_or desks i e).kind ≡ Completing) → (i : ℕ) (e : DeskView) → i < suc count
        → (slice_index_or (d ∷ desks) i e).kind ≡ Completing
    at first later zero e below = first
    at first later (suc i) e below = later i e (omega (arith, below))

-- the first of them dial, the others complete calls
pub record AreSplit (dialling completing : ℕ) (desks : List DeskView) : Type 0 where
  pub count : length desks ≡ dialling + completing
  pub first : (i : ℕ) (e : DeskView) → i < dialling → (slice_index_or desks i e).kind ≡ Dial
  pub last : (i : ℕ) (e : DeskView) → dialling ≤ i → i < dialling + completing → (slice_index_or desks i e).kind ≡ Completing

pub are_split : (dialling completing : ℕ) (desks : List DeskView) → map kind_of desks ≡ kinds_of dialling completing → AreSplit dialling completing desks
are_split zero completing desks are =
    let all = all_completing completing desks are in
    let count = all.0 in record {
      count = omega (arith, count);
      first = λ i e below. absurd (omega (arith, below));
      last = λ i e above below. all.1 i e (omega (arith, below));
    }
are_split (suc dialling) completing [] are = absurd cc
are_split (suc dialling) completing (d ∷ desks) are =
    let dials : d.kind ≡ Dial = cc in
    let rest = are_split dialling completing desks cc in
    let count = rest.count in record {
      count = omega (arith, count);
      first = begins dials rest.first;
      last = ends rest.last;
    }
  where
    begins : d.kind ≡ Dial → ((i : ℕ) (e : DeskView) → i < dialling → (slice_index_or desks i e).kind ≡ Dial) → (i : ℕ) (e : DeskView) → i < suc dialling
        → (slice_index_or (d ∷ desks) i e).kind ≡ Dial
    begins first later zero e below = first
    begins first later (suc i) e below = later i e (omega (arith, below))

    ends : ((i : ℕ) (e : DeskView) → dialling ≤ i → i < dialling + completing → (slice_index_or desks i e).kind ≡ Completing) → (i : ℕ) (e : DeskView)
        → suc dialling ≤ i → i < suc dialling + completing
        → (slice_index_or (d ∷ desks) i e).kind ≡ Completing
    ends later zero e above below = absurd (omega (arith, above))
    ends later (suc i) e above below = later i e (omega (arith, above)) (omega (arith, below))

module _ (dialling completing : ℕ) (desks : List DeskView) (are : map kind_of desks ≡ kinds_of dialling completing) where
  split : AreSplit dialling completing desks
  split = are_split dialling completing desks are

  -- the first that completes calls is after all that dial
  pub ends_here : (i : ℕ) (d : DeskView) → i ≤ dialling → d ≡ slice_index_or desks i d → d.kind ≡ Completing → i ≡ dialling
  ends_here i d below is completes = by_place (dec_lt i dialling)
    where
      by_place : Dec (i < dialling) → i ≡ dialling
      by_place (no far) = omega (arith, below, far)
      by_place (yes near) = let dials : d.kind ≡ Dial = ap kind_of is ∙ split.first i d near in absurd cc

  pub goes_on : (i : ℕ) (d : DeskView) → i ≤ dialling → i < length desks → d ≡ slice_index_or desks i d → (d.kind ≡ Completing → ⊥) → i + 1 ≤ dialling
  goes_on i d below within is dials = by_place (dec_lt i dialling)
    where
      by_place : Dec (i < dialling) → i + 1 ≤ dialling
      by_place (yes near) = omega (arith, near)
      by_place (no far) =
          let count = split.count in
          absurd (dials (ap kind_of is ∙ split.last i d (omega (arith, far)) (omega (arith, within, count))))

  pub ends_behind : (i : ℕ) → i ≤ dialling → length desks ≤ i → i ≡ dialling
  ends_behind i below far = let count = split.count in omega (arith, below, far, count)
