-- a slot that two logged jobs took was freed in between, by a logged job
use Rattle.std.proofs.Common.{◌≡◌, ℕ, suc, ◌+◌, ◌≤◌, ◌<◌, ◌^◌, ◌%◌, List, [], ◌∷◌, ◌++◌, length, length-append, inl, inr, refl, sym, ◌∙◌, ap, subst, arith}
use Rattle.turns.{specs.{Among.IsIn, Law.IsLegal, World.RecordOf}, proofs.Lists.{in_front, in_back, in_either}}
use Rattle.desks.{proofs.LegalTurns.{legal_behind, legal_front, turn_within}, specs.Reports.MakeUp}
use Rattle.slots.{specs.{System.slots, Taken.IsGivenBack, declared.job.Job.TheVariants.Give}, proofs.TakenOnce.taken_once}
use Rattle.slot_desks.{specs.Ended.{AllGiveOwn, IsLogged, NoneHadTwice, NoneTakenTwice}, proofs.Owners.{given_by_its_taker, logs_own}}

abbrev Order : Type 0
Order = List (RecordOf slots)

-- an order, split before and after one of its records
record IsSplit (order : Order) (r : RecordOf slots) : Type 0 where
  before : Order
  rest : Order
  order_is : order ≡ before ++ r ∷ rest

split : (order : Order) (r : RecordOf slots) → IsIn r order → IsSplit order r
split [] r within = absurd within
split (x ∷ order) r (inl e) = record { before = []; rest = order; order_is = ap (λ (y : RecordOf slots). y ∷ order) (sym e) }
split (x ∷ order) r (inr later) = let s = split order r later in
    record { before = x ∷ s.before; rest = s.rest; order_is = ap (λ (l : Order). x ∷ l) s.order_is }

-- the record of a job that frees a slot
record GivesBack (slot : ℕ) (between : Order) : Type 0 where
  back : RecordOf slots
  within : IsIn back between
  gives : back.job ≡ Give slot

giver : (slot : ℕ) (between : Order) → IsGivenBack slot between → GivesBack slot between
giver slot [] none = absurd none
giver slot (r ∷ between) (inl e) = record { back = r; within = inl refl; gives = e }
giver slot (r ∷ between) (inr later) = let g = giver slot between later in record { back = g.back; within = inr g.within; gives = g.gives }

-- the turn of a record is its place
turn_is : (before rest : Order) (r : RecordOf slots) → IsLegal slots 0 slots.opening (before ++ r ∷ rest) → length (before ++ r ∷ rest) ≤ 2 ^ 64
    → r.turn ≡ length before
turn_is before rest r legal few =
    let behind = legal_behind slots 0 slots.opening before (r ∷ rest) legal in
    let long = length-append before (r ∷ rest) in
    let small : 0 + length before < 2 ^ 64 = omega (arith, long, few) in
    let same : (0 + length before) % 2 ^ 64 ≡ 0 + length before = omega (arith, small) in
    omega (arith, behind.legal.1, same)

-- of two records, the one with the later turn comes after the other in the order
behind : (before rest : Order) (r other : RecordOf slots) → IsLegal slots 0 slots.opening (before ++ r ∷ rest) → length (before ++ r ∷ rest) ≤ 2 ^ 64
    → r.turn < other.turn → IsIn other (before ++ r ∷ rest) → IsIn other rest
behind before rest r other legal few later within = elim (in_either other before (r ∷ rest) within) [
  | inl front ↦
      let long = length-append before (r ∷ rest) in
      let at = turn_is before rest r legal few in
      let h =
      (turn_within slots tt 0 slots.opening before other (legal_front slots 0 slots.opening before (r ∷ rest) legal) front (omega (arith, long, few))).1 in
      absurd (omega (arith, at, h, later))
  | inr (inl e) ↦ let same : other.turn ≡ r.turn = ap (λ (x : RecordOf slots). x.turn) e in absurd (omega (arith, same, later))
  | inr (inr rest) ↦ rest
]

-- a record between two others has a turn between theirs
module _ (before between later : Order) (r other : RecordOf slots) (legal : IsLegal slots 0 slots.opening (before ++ r ∷ (between ++ other ∷ later)))
    (few : length (before ++ r ∷ (between ++ other ∷ later)) ≤ 2 ^ 64) where
  turn_between : (back : RecordOf slots) → IsIn back between → (r.turn < back.turn) × (back.turn < other.turn)
  turn_between back within =
      let long = length-append before (r ∷ (between ++ other ∷ later)) in
      let long' = length-append between (other ∷ later) in
      let at = turn_is before (between ++ other ∷ later) r legal few in
      let from = legal_behind slots 0 slots.opening before (r ∷ (between ++ other ∷ later)) legal in
      let front = legal_front slots (suc (0 + length before)) (slots.whole from.state r.job).state between (other ∷ later) from.legal.3 in
      let h = turn_within slots tt (suc (0 + length before)) (slots.whole from.state r.job).state between back front within (omega (arith, long, long', few)) in
      let next = legal_behind slots (suc (0 + length before)) (slots.whole from.state r.job).state between (other ∷ later) from.legal.3 in
      let small : suc (0 + length before) + length between < 2 ^ 64 = omega (arith, long, long', few) in
      let same : (suc (0 + length before) + length between) % 2 ^ 64 ≡ suc (0 + length before) + length between = omega (arith, small) in
      (omega (arith, at, h.0), omega (arith, h.1, next.legal.1, same))

-- two records of an order, of which the one has the later turn, and what is between them
record AreSplit (order : Order) (r other : RecordOf slots) : Type 0 where
  before : Order
  between : Order
  later : Order
  order_is : order ≡ before ++ r ∷ (between ++ other ∷ later)

split_both : (order : Order) (r other : RecordOf slots) → IsLegal slots 0 slots.opening order → length order ≤ 2 ^ 64 → IsIn r order → IsIn other order
    → r.turn < other.turn → AreSplit order r other
split_both order r other legal few within too later =
    let one = split order r within in
    let legal' = subst (IsLegal slots 0 slots.opening) one.order_is legal in
    let few' = subst (λ (l : Order). length l ≤ 2 ^ 64) one.order_is few in
    let two = split one.rest other (behind one.before one.rest r other legal' few' later (subst (IsIn other) one.order_is too)) in
    record { before = one.before; between = two.before; later = two.rest; order_is = one.order_is ∙ ap (λ (l : Order). one.before ++ r ∷ l) two.order_is }

-- what is known of logs that make up a legal order
module _ (logs : List Order) (order : Order) (legal : IsLegal slots 0 slots.opening order) (made : MakeUp slots logs order)
    (ordered : (r : RecordOf slots) → IsLogged logs r → IsIn r order) (logged : (r : RecordOf slots) → IsIn r order → IsLogged logs r)
    (few : length order ≤ 2 ^ 64) where
  -- a record between two others is logged, and so is its turn between theirs
  record IsBetween (r other back : RecordOf slots) : Type 0 where
    its_log : IsLogged logs back
    after : r.turn < back.turn
    before : back.turn < other.turn

  is_between : (r other back : RecordOf slots) (s : AreSplit order r other) → IsIn back s.between → IsBetween r other back
  is_between r other back s within =
      let turns =
      turn_between s.before s.between s.later r other (subst (IsLegal slots 0 slots.opening) s.order_is legal)
      (subst (λ (l : Order). length l ≤ 2 ^ 64) s.order_is few) back within in
      let among : IsIn back (s.before ++ r ∷ (s.between ++ other ∷ s.later)) =
      in_back back s.before (r ∷ (s.between ++ other ∷ s.later)) (inr (in_front back s.between (other ∷ s.later) within)) in
      record { its_log = logged back (subst (IsIn back) (sym s.order_is) among); after = turns.0; before = turns.1 }

  pub not_twice : NoneTakenTwice logs
  not_twice r other slot one two took too later =
      let s = split_both order r other legal few (ordered r one) (ordered other two) later in
      let g = giver slot s.between (taken_once slot other s.later too s.before s.between r order legal s.order_is took) in
      let b = is_between r other g.back s g.within in
      (g.back, b.its_log, g.gives, b.after, b.before)

  pub not_had_twice : AllGiveOwn logs → NoneHadTwice logs
  not_had_twice all r other slot one two took too later =
      let s = split_both order r other legal few (ordered r one) (ordered other two) later in
      let g = given_by_its_taker order s.before s.between s.later r other slot legal (logs_own logs order made all) s.order_is took too in
      let b = is_between r other g.back s g.within in
      (g.back, b.its_log, g.gives, g.by, b.after, b.before)
