use Rattle.std.proofs.Common.{arith}
use Rattle.xbar_office.proofs.AuditedRecords.{turns-more}
use Rattle.xbar_office.proofs.auditor.first_wrong_turn.Goals as goal

pub loop-place-preserved : goal.loop-place-preserved
loop-place-preserved c =
    turns-more c.args.records.now c.loop-place.place c.index-records-place.result (omega arith) c.index-records-place.is c.if-record-place.false
    c.loop-place.invariant
