use Rattle.xbar_jobs.proofs.{CompletingRows.known_on, WalksOnWords.grown}
use Rattle.xbar_jobs.proofs.dialling.dial.Goals as goal

pub returns-clause-valid_point : goal.returns-clause-valid_point
returns-clause-valid_point c =
    known_on c.args.line c.approach.new.self c.approach.new.seen.seen c.connect.new.seen.seen
    (grown _ c.approach.new.seen c.connect.new.seen c.approach.new.words c.connect.new.words c.connect.result c.connect.ensures) c.approach.ensures.valid_point
