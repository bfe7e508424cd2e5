use Rattle.xbar_jobs.{specs.Releasing.release_from, proofs.{CompletingRows.known_on, WalksOnWords.grown}}
use Rattle.xbar_jobs.proofs.releasing.release.Goals as goal

pub returns-clause-valid_point : goal.returns-clause-valid_point
returns-clause-valid_point c =
    known_on c.args.line c.trace.new.self c.trace.new.seen.seen c.release_from.new.seen.seen
    (grown (release_from c.args.plan.now c.in_ok-own.own) c.trace.new.seen c.release_from.new.seen c.trace.new.words c.release_from.new.words
    c.release_from.result c.release_from.ensures) c.trace.ensures.valid_point
