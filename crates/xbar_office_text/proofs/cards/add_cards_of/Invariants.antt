use Rattle.std.proofs.Common.{◌≡◌, ◌++◌, take, flat_map, string_bytes}
use Rattle.xbar_office_text.specs.Cards.{card_text}
use Rattle.xbar_office_text.proofs.cards.add_cards_of.Given as goal

abbrev pub invariant-loop-card : goal.invariant-loop-card
invariant-loop-card l = string_bytes l.text ≡ string_bytes l.initial.text ++ flat_map (card_text l.owner) (take l.card-index l.owner.reply.cards)
