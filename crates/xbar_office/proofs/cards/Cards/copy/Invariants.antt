use Rattle.std.proofs.Common.{◌≡◌, take}
use Rattle.xbar_office.proofs.cards.Cards.copy.Given as goal

abbrev pub invariant-loop-card : goal.invariant-loop-card
invariant-loop-card l = l.cards ≡ take l.card-index l.all
