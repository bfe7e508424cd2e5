use Rattle.std.proofs.Common.{◌≡◌, ◌++◌, take, flat_map, string_bytes}
use Rattle.xbar_page.specs.Section.{card_inset}
use Rattle.xbar_page.proofs.section.add_cards.Given as goal

abbrev pub invariant-loop-card : goal.invariant-loop-card
invariant-loop-card l = string_bytes l.text ≡ string_bytes l.initial.text ++ flat_map card_inset (take l.card-index l.cards)
