use Rattle.std.proofs.Common.{◌≡◌, map, take, string_bytes}
use Rattle.xbar_plan_text.specs.Texts.{capped_number}
use Rattle.xbar_plan_text.proofs.read.codes.numbers_of.Given as goal

abbrev pub invariant-loop-name : goal.invariant-loop-name
invariant-loop-name l = l.numbers.items ≡ map (λ name. capped_number l.groups (string_bytes name)) (take l.name-index l.names)
