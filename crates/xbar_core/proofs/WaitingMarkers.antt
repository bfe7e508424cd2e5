-- markers that have a turn still to come
use Rattle.std.proofs.Common.{◌≡◌, ℕ, zero, suc, ◌+◌, ◌≤◌, Bool, true, false, List, [], ◌∷◌, length, ap, arith, Some, is_some, if◌then◌else◌, slice_get}
use Rattle.std.proofs.Common.{slice_set}
use Rattle.{std.proofs.lemmas.Option.{none-some, same_Some}, turns.specs.{Attempt.turn_in, World.{Idle, Does}}, xbar_jobs.specs.Attempt.Phase}
use Rattle.{xbar_moves.specs.Exchange.{Marker, Work}, xbar_core.specs.Standing.{waiting, waits, waits_in}}

-- with one marker set, as many more or fewer wait for their turn as do by it
pub waiting_set : (markers : List Marker) (k : ℕ) (m was : Marker) → slice_get markers k ≡ Some was
    → waiting (slice_set markers k m) + waits was.work ≡ waiting markers + waits m.work
unfolding waiting
waiting_set [] k m was e = absurd (none-some was e)
waiting_set (n ∷ markers) zero m was e = let same = ap (λ (o : Marker). waits o.work) (same_Some n was e) in omega (arith, same)
waiting_set (n ∷ markers) (suc k) m was e = let rest = waiting_set markers k m was e in omega (arith, rest)

-- a marker that is there waits as one of all
pub waits_among : (markers : List Marker) (k : ℕ) (m : Marker) → slice_get markers k ≡ Some m → waits m.work ≤ waiting markers
unfolding waiting
waits_among [] k m e = absurd (none-some m e)
waits_among (n ∷ markers) zero m e = let same = ap (λ (o : Marker). waits o.work) (same_Some n m e) in omega (arith, same)
waits_among (n ∷ markers) (suc k) m e = let rest = waits_among markers k m e in omega (arith, rest)

-- one turn at most is still to come of each marker
pub waits_most : (phase : Phase) → waits_in phase ≤ 1
waits_most phase = by (is_some (turn_in phase)) where
  by : (turned : Bool) → (if turned then 0 else 1) ≤ 1
  by true = omega arith
  by false = omega arith

waits_one : (work : Work) → waits work ≤ 1
waits_one Idle = omega arith
waits_one (Does n a) = waits_most a.phase

pub waiting_most : (markers : List Marker) → waiting markers ≤ length markers
unfolding waiting
waiting_most [] = omega arith
waiting_most (m ∷ markers) = let one = waits_one m.work in let rest = waiting_most markers in omega (arith, one, rest)
