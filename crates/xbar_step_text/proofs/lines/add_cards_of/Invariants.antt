use Rattle.std.proofs.Common.{◌≡◌, ◌++◌, take, flat_map, string_bytes}
use Rattle.xbar_step_text.specs.Lines.{card_line}
use Rattle.xbar_step_text.proofs.lines.add_cards_of.Given as goal

abbrev pub invariant-loop-card : goal.invariant-loop-card
invariant-loop-card l = string_bytes l.text ≡ string_bytes l.initial.text ++ flat_map card_line (take l.card-index l.owner.reply.cards)
