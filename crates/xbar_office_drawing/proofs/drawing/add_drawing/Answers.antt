use Rattle.std.proofs.Common.{append_assoc}
use Rattle.xbar_office_drawing.specs.Drawing.{drawing_of}
use Rattle.xbar_office_drawing.proofs.drawing.add_drawing.Goals as goal

pub returns : goal.returns
unfolding drawing_of
returns c =
    rw (
      c.in_ok-add_foot.ensures,
      c.in_ok-add_parts.ensures,
      c.in_ok-add_shapes.ensures,
      c.in_ok-push_str.ensures.bytes,
      c.in_ok-add_head.ensures,
      c.drawing_height-height.ensures,
    )
    (simp append_assoc)
