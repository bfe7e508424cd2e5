use Rattle.std.proofs.Common.{append_assoc}
use Rattle.xbar_office_drawing.{specs.Office.two_frames, proofs.Longer.flat_map_longer}
use Rattle.xbar_office_drawing.proofs.office.add_frames.Goals as goal

pub loop-frame-preserved : goal.loop-frame-preserved
loop-frame-preserved c =
    rw (
      c.in_ok-add_shapes.ensures,
      c.as_str.ensures.value,
      c.as_str-in-loop-frame.ensures.value,
      c.in_ok-number.ensures.ok,
      c.frame_top-top.ensures.value,
      c.loop-frame.invariant,
      flat_map_longer two_frames c.loop-frame.frame-counter,
    )
    (simp append_assoc)
