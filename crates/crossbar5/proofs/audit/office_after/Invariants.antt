use Rattle.std.proofs.Common.{◌≡◌, take}
use Rattle.xbar_office.specs.Legal.{after}
use Rattle.crossbar5.proofs.audit.office_after.Given as goal

abbrev pub invariant-loop-record : goal.invariant-loop-record
invariant-loop-record l = l.office ≡ record { plan = l.plan; paths = after l.plan (take l.record-index l.records) }
