use Rattle.xbar_jobs.proofs.{CompletingRows.known_on, WalksOnWords.grown}
use Rattle.xbar_jobs.proofs.completing.complete.Goals as goal

pub returns-clause-valid_point : goal.returns-clause-valid_point
returns-clause-valid_point c =
    known_on c.args.line c.trace.new.self c.trace.new.seen.seen c.call_without.new.seen.seen
    (grown _ c.trace.new.seen c.call_without.new.seen c.trace.new.words c.call_without.new.words c.call_without.result c.call_without.ensures)
    c.trace.ensures.valid_point
