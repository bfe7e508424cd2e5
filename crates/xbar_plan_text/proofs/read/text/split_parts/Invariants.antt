use Rattle.std.proofs.Common.{◌≡◌, ◌++◌, length, map}
use Rattle.xbar_plan_text.specs.Texts.{parts}
use Rattle.xbar_plan_text.proofs.read.text.split_parts.Given as goal

-- the parts found and the parts of the rest are the parts of the text
abbrev pub invariant-loop-first : goal.invariant-loop-first
invariant-loop-first l = map (λ part. part.now) l.found.items ++ parts l.rest ≡ parts l.fn.text

abbrev pub decreases-loop-first : goal.decreases-loop-first
decreases-loop-first l = length l.rest
