use Rattle.std.proofs.Common.{◌∙◌}
use Rattle.xbar_match.proofs.TracedPaths.{traced-shown}
use Rattle.xbar_match.proofs.traces.trace.Goals as goal

pub returns-clause-shown : goal.returns-clause-shown
returns-clause-shown c =
    λ paths shows ranges apart. c.follow.ensures.path ∙ traced-shown c.args.words.now paths c.args.line c.follow.ensures.line shows ranges apart
