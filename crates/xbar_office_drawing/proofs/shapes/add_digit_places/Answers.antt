use Rattle.std.proofs.Common.{append_assoc}
use Rattle.xbar_office_drawing.{specs.Shapes.digit_place, proofs.Longer.map_longer}
use Rattle.xbar_office_drawing.proofs.shapes.add_digit_places.Goals as goal

pub loop-place-preserved : goal.loop-place-preserved
loop-place-preserved c =
    rw (
      c.in_ok-add_shape.ensures,
      c.digit_point-corner.ensures,
      c.loop-place.invariant,
      map_longer digit_place c.loop-place.place,
    )
    (simp append_assoc)
