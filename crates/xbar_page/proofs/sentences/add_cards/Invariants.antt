use Rattle.std.proofs.Common.{◌≡◌, ◌++◌, map, take, flat_map, string_bytes}
use Rattle.xbar_page.specs.{Section.card_item_text, Words.card_words}
use Rattle.xbar_page.proofs.sentences.add_cards.Given as goal

abbrev pub invariant-loop-card : goal.invariant-loop-card
invariant-loop-card l = string_bytes l.text ≡ string_bytes l.initial.text ++ flat_map card_item_text (map card_words (take l.card-index l.card-items))
