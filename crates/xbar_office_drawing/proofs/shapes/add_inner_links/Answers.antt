use Rattle.std.proofs.Common.{◌≡◌, append_assoc, arith}
use Rattle.xbar_office_drawing.{specs.Shapes.inner_link, proofs.Longer.map_longer}
use Rattle.xbar_office_drawing.proofs.shapes.add_inner_links.Goals as goal

pub loop-link-preserved : goal.loop-link-preserved
unfolding inner_link
loop-link-preserved c =
    rw (
      c.in_ok-add_shape.ensures,
      c.level.ensures.value,
      c.level-in-loop-link.ensures.value,
      c.loop-link.invariant,
      map_longer (inner_link c.args.left c.args.right) c.loop-link.link,
    )
    (simp append_assoc)

pub returns : goal.returns
returns c =
    let done : c.loop-link.link ≡ 100 = omega arith in
    rw done at c.loop-link.invariant
