use Rattle.std.proofs.Common.{◌≡◌, ◌++◌, take, flat_map, string_bytes}
use Rattle.xbar_report.specs.Text.{card_lines}
use Rattle.xbar_report.proofs.report_text.add_cards.Given as goal

abbrev pub invariant-loop-record : goal.invariant-loop-record
invariant-loop-record l = string_bytes l.text ≡ string_bytes l.initial.text ++ flat_map card_lines (take l.record-index l.records)
