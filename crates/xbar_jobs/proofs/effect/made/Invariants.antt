use Rattle.std.proofs.Common.{◌≡◌, drop}
use Rattle.xbar_jobs.specs.Closing.{value_after}
use Rattle.xbar_jobs.proofs.effect.made.Given as goal

abbrev pub invariant-loop-effect : goal.invariant-loop-effect
invariant-loop-effect l = value_after (drop l.effect-index l.effects) l.word l.value ≡ value_after l.effects l.word l.fn.value
