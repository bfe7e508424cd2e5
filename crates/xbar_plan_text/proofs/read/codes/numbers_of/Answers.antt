use Rattle.std.proofs.Common.{map, ◌∙◌, ap, take_all, string_bytes}
use Rattle.xbar_plan_text.specs.Texts.{capped_number}
use Rattle.xbar_plan_text.proofs.read.codes.numbers_of.Goals as goal

pub returns : goal.returns
returns c =
    c.loop-name.invariant
    ∙ ap (map (λ name. capped_number c.args.groups.now (string_bytes name))) (take_all c.loop-name.name-index c.args.names.now c.loop-name-test.false)
