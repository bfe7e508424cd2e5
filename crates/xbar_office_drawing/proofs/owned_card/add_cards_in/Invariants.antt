use Rattle.std.proofs.Common.{◌≡◌, ◌++◌, take, map}
use Rattle.xbar_office_drawing.specs.Drawing.{owned_by}
use Rattle.xbar_office_drawing.proofs.owned_card.add_cards_in.Given as goal

abbrev pub invariant-loop-card : goal.invariant-loop-card
invariant-loop-card l = l.cards.items ≡ l.initial.cards.items ++ map (owned_by l.owner) (take l.card-index l.owner.reply.cards)
