use Rattle.std.proofs.Common.{◌≡◌, take}
use Rattle.xbar_office_drawing.specs.Drawing.{all_cards}
use Rattle.xbar_office_drawing.proofs.owned_card.all_cards.Given as goal

abbrev pub invariant-loop-record : goal.invariant-loop-record
invariant-loop-record l = l.cards.items ≡ all_cards (take l.record-index l.records)
