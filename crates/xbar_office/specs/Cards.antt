use Rattle.std.specs.Prelude.{◌≡◌, ◌↔◌, ◌==◌, ◌&&◌, Bool, true, List}
use Rattle.std.specs.Cmp.{IsPartialEquivalence, IsEquivalence, partial_equiv_from_equiv}
use Rattle.std.specs.Cmp.Lexicographic.{pointwise, lists_equiv, pointwise_decides}
use Rattle.std.proofs.Common.{ap}
use borrow.Author.Tests.{eqb-true, eq-eqb}
use Rattle.xbar_equip.specs.Link.{link_eq}
use Rattle.xbar_equip.proofs.Logic.{both, both_hold}
use Rattle.xbar_equip.proofs.PathTests.{link_eq-exact}
use Rattle.xbar_equip.specs.Equivalences.{exact-equivalence}
use Rattle.xbar_office.specs.declared.reply.Card.{Card}

-- whether two cards are the same
abbrev pub card_eq : Card → Card → Bool
card_eq a b = a.trial == b.trial && link_eq a.link b.link

-- whether two lists of cards are the same: equally long, and equal card by card
abbrev pub cards_eq : List Card → List Card → Bool
cards_eq a b = pointwise card_eq a b

-- the test finds two cards equal exactly if they are the same
pub card_eq-exact : (a b : Card) → (card_eq a b ≡ true) ↔ (a ≡ b)
card_eq-exact a b = (one, same) where
  one : card_eq a b ≡ true → a ≡ b
  one e =
      let tests = both (a.trial == b.trial) (link_eq a.link b.link) e in
      let trial = eqb-true a.trial b.trial tests.0 in
      let link = (link_eq-exact a.link b.link).0 tests.1 in
      λ i. record { trial = trial i; link = link i }

  same : a ≡ b → card_eq a b ≡ true
  same e =
      both_hold (a.trial == b.trial) (link_eq a.link b.link)
      (eq-eqb a.trial b.trial (ap (λ (c : Card). c.trial) e))
      ((link_eq-exact a.link b.link).1 (ap (λ (c : Card). c.link) e))

-- so the tests of cards and of lists of cards are equivalence relations
pub cards-equivalence : IsEquivalence cards_eq
cards-equivalence = lists_equiv (exact-equivalence card_eq card_eq-exact)

pub cards-partial_equivalence : IsPartialEquivalence cards_eq
cards-partial_equivalence = partial_equiv_from_equiv cards-equivalence

-- and exact
pub cards_exact : (a b : List Card) → (cards_eq a b ≡ true) ↔ (a ≡ b)
cards_exact a b = pointwise_decides card_eq-exact a b
