use Rattle.std.proofs.Common.{◌≡◌, ◌++◌, take, flat_map, string_bytes}
use Rattle.xbar_report.specs.Text.{record_line}
use Rattle.xbar_report.proofs.report_text.add_records.Given as goal

abbrev pub invariant-loop-record : goal.invariant-loop-record
invariant-loop-record l = string_bytes l.text ≡ string_bytes l.initial.text ++ flat_map record_line (take l.record-index l.records)
