use Rattle.std.proofs.Common.{◌∙◌, string_bytes}
use Rattle.xbar_office_drawing.proofs.NamesLeft.{next_names, no_names}
use Rattle.xbar_office_drawing.proofs.names.add_names.Goals as goal

pub loop-place-preserved : goal.loop-place-preserved
loop-place-preserved c =
    rw c.in_ok-add_names_after.ensures
    (next_names c.args.plan.now c.args.paths.now c.loop-place.place c.index-paths-place.result (string_bytes c.loop-place.text) c.index-paths-place.is
    c.loop-place-test.true ∙ c.loop-place.invariant)

pub returns : goal.returns
returns c =
    no_names c.args.plan.now c.args.paths.now c.loop-place.place (string_bytes c.loop-place.text) c.loop-place-test.false ∙ c.loop-place.invariant
