use Rattle.std.proofs.Common.{◌≡◌, drop}
use Rattle.xbar_jobs.specs.{Script.walk_on_words, Trunks.find_trunk}
use Rattle.xbar_jobs.proofs.trunks.find_trunk.Given as goal

abbrev pub invariant-loop-group : goal.invariant-loop-group
invariant-loop-group l =
    walk_on_words l.made (find_trunk l.plan (drop l.group-index l.groups)) l.seen l.words
    ≡ walk_on_words l.made (find_trunk l.plan l.groups) l.initial.seen l.initial.words
