use Rattle.std.proofs.Common.{◌≡◌, [], take}
use Rattle.xbar_office.specs.Legal.{AreJobs, HaveReplies, jobs_of, after}
use Rattle.xbar_office.proofs.auditor.replay.Given as goal

abbrev pub invariant-loop-record : goal.invariant-loop-record
invariant-loop-record l = record {
  office : l.office ≡ record { plan = l.plan; paths = after l.plan (take l.record-index l.records) };
  jobs : AreJobs (jobs_of (take l.record-index l.records));
  replies : HaveReplies l.plan [] (take l.record-index l.records);
}
