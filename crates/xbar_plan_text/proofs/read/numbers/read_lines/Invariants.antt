use Rattle.std.proofs.Common.{◌≡◌, take, Some}
use Rattle.xbar_plan_text.specs.Texts.{read_all, line_of}
use Rattle.xbar_plan_text.proofs.read.numbers.read_lines.Given as goal

-- the items so far, as read, are those kept
abbrev pub invariant-loop-part : goal.invariant-loop-part
invariant-loop-part l = read_all (λ part. line_of part.now) (take l.part-index l.parts) ≡ Some (l.lines.items)
