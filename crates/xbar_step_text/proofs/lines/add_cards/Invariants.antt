use Rattle.std.proofs.Common.{◌≡◌, ◌++◌, take, string_bytes}
use Rattle.xbar_step_text.specs.Lines.{card_lines}
use Rattle.xbar_step_text.proofs.lines.add_cards.Given as goal

abbrev pub invariant-loop-record : goal.invariant-loop-record
invariant-loop-record l = string_bytes l.text ≡ string_bytes l.initial.text ++ card_lines (take l.record-index l.records)
