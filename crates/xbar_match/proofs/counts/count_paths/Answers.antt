use Rattle.std.proofs.Common.{◌∙◌, arith}
use Rattle.xbar_match.proofs.CountedPaths.{counted}
use Rattle.xbar_match.proofs.counts.count_paths.Goals as goal

pub returns-clause-shown : goal.returns-clause-shown
returns-clause-shown c =
    λ paths shows ranges apart is_set. c.count_line_fields.ensures
    ∙ (counted c.args.words.now paths (omega (arith, c.requires)) shows ranges apart is_set).lines
