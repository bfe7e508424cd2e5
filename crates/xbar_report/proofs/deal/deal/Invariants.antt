use Rattle.std.proofs.Common.{◌≡◌, ◌++◌, take, drop}
use Rattle.xbar_report.specs.Dealt.{dealt_records, left_of}
use Rattle.xbar_report.proofs.deal.deal.Given as goal

abbrev pub invariant-loop-record : goal.invariant-loop-record
invariant-loop-record l =
    (l.records ≡ dealt_records (take l.record-index l.initial.records) l.cards ++ drop l.record-index l.initial.records)
    × (l.rest ≡ left_of (take l.record-index l.initial.records) l.cards)
