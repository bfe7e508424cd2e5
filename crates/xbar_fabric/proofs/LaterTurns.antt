-- the place of a marker's next own record, and so its turn
use Rattle.std.proofs.Common.{◌≡◌, ℕ, ◌+◌, ◌<◌, ◌≤◌, ◌^◌, Bool, true, false, List, [], ◌∷◌, ◌++◌, length, length-append, sym, ◌∙◌, ap, subst, arith, ◌==◌}
use Rattle.std.proofs.Common.{if◌then◌else◌}
use Rattle.{std.proofs.lemmas.List.append_cancel_left, desks.specs.Parts.Begins, xbar_office.specs.{Legal.HaveTurns, declared.reply.Record.Record}}
use Rattle.xbar_fabric.{specs.{Histories.IsHistory, Views.{DeskView, mine, own}}, proofs.OwnRecords.own_append}

-- records after others have the turns from there on
turns_behind : (turn : ℕ) (records more : List Record) → HaveTurns turn (records ++ more) → HaveTurns (turn + length records) more
turns_behind turn [] more have = subst (λ (n : ℕ). HaveTurns n more) (omega arith) have
turns_behind turn (r ∷ records) more have = subst (λ (n : ℕ). HaveTurns n more) (omega arith) (turns_behind (turn + 1) records more have.1)

-- a marker's first own record among those with the turns from one on
turn_within : (k turn : ℕ) (records : List Record) (r : Record) → HaveTurns turn records → own k records ≡ r ∷ []
    → (turn ≤ r.turn) × (r.turn < turn + length records)
turn_within k turn [] r have its = absurd cc
turn_within k turn (x ∷ records) r have its = by (x.marker == k) its (turn_within k (turn + 1) records r have.1) where
  by : (mine : Bool) → (if mine then x ∷ own k records else own k records) ≡ r ∷ []
      → (own k records ≡ r ∷ [] → (turn + 1 ≤ r.turn) × (r.turn < turn + 1 + length records))
      → (turn ≤ r.turn) × (r.turn < turn + length (x ∷ records))
  by true is within =
      let same : x ≡ r = cc in
      let at = sym (ap (λ (s : Record). s.turn) same) ∙ have.0 in
      (omega (arith, at), omega (arith, at))
  by false is within =
      let later = within is in
      (omega (arith, later.0), omega (arith, later.1))

-- a desk's next own record has a turn that is later than all that it had seen
pub turn_is_later : (before after : DeskView) (r : Record) → after.marker ≡ before.marker → Begins before.seen after.seen → mine after ≡ mine before ++ r ∷ []
    → IsHistory after.plan after.seen → length after.seen < 2 ^ 64
    → (length before.seen ≤ r.turn) × (r.turn < length after.seen)
turn_is_later before after r marker begins mine_is history few =
    let have = turns_behind 0 before.seen begins.0 (subst (HaveTurns 0) begins.1 (history.legal few).turns) in
    let all : mine before ++ own before.marker begins.0 ≡ mine before ++ r ∷ [] =
    sym (own_append before.marker before.seen begins.0)
    ∙ ap (own before.marker) (sym begins.1)
    ∙ ap (λ (k : ℕ). own k after.seen) (sym marker)
    ∙ mine_is in
    let within =
    turn_within before.marker (0 + length before.seen) begins.0 r have (append_cancel_left (mine before) (own before.marker begins.0) (r ∷ []) all) in
    let long : length after.seen ≡ length before.seen + length begins.0 = ap (length {A = Record}) begins.1 ∙ length-append before.seen begins.0 in
    (omega (arith, within.0), omega (arith, within.1, long))
