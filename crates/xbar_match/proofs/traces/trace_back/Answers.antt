use Rattle.std.proofs.Common.{◌∙◌}
use Rattle.xbar_match.proofs.TracedPaths.{traced_back-shown}
use Rattle.xbar_match.proofs.traces.trace_back.Goals as goal

pub returns-clause-shown : goal.returns-clause-shown
returns-clause-shown c =
    λ paths shows ranges apart. c.follow_back.ensures.path
    ∙ traced_back-shown c.args.words.now paths c.args.place c.follow_back.ensures.place shows ranges apart
