use Rattle.std.proofs.Common.{◌≡◌, ◌++◌, take, flat_map, string_bytes}
use Rattle.xbar_office_text.specs.Cards.{cards_of}
use Rattle.xbar_office_text.proofs.cards.add_cards.Given as goal

abbrev pub invariant-loop-record : goal.invariant-loop-record
invariant-loop-record l = string_bytes l.text ≡ string_bytes l.initial.text ++ flat_map cards_of (take l.record-index l.records)
