use Rattle.std.proofs.Common.{◌≡◌, drop}
use Rattle.xbar_jobs.specs.{Completing.hunt, Script.walk_on_words}
use Rattle.xbar_jobs.proofs.completing.hunt.Given as goal

abbrev pub invariant-loop-line : goal.invariant-loop-line
invariant-loop-line l =
    walk_on_words l.made (hunt l.calling (drop l.line-index l.lines)) l.seen l.words
    ≡ walk_on_words l.made (hunt l.calling l.lines) l.initial.seen l.initial.words
