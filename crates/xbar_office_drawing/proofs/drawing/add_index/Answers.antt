use Rattle.std.proofs.Common.{◌∙◌, string_bytes}
use Rattle.xbar_office_drawing.{specs.{declared.placing.TheConstants.INDEX, Index.entry}, proofs.Laying.{last_part, next_part}}
use Rattle.xbar_office_drawing.proofs.drawing.add_index.Goals as goal

pub loop-k-preserved : goal.loop-k-preserved
loop-k-preserved c =
    rw (c.in_ok-add_group_end.ensures, c.in_ok-add_entry.ensures, c.in_ok-add_place.ensures)
    (next_part INDEX 920 (entry c.args.plan.now) c.args.paths.now c.loop-k.k c.index-paths-k.result (string_bytes c.loop-k.text)
    c.index-paths-k.is c.loop-k-test.true ∙ c.loop-k.invariant)

pub returns : goal.returns
returns c =
    last_part INDEX 920 (entry c.args.plan.now) c.args.paths.now c.loop-k.k (string_bytes c.loop-k.text) c.loop-k-test.false
    ∙ c.loop-k.invariant
