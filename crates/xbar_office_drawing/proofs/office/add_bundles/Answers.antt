use Rattle.std.proofs.Common.{append_assoc}
use Rattle.xbar_office_drawing.{specs.Office.bundle, proofs.Longer.map_longer}
use Rattle.xbar_office_drawing.proofs.office.add_bundles.Goals as goal

pub loop-frames-preserved : goal.loop-frames-preserved
loop-frames-preserved c =
    rw (
      c.in_ok-add_shape.ensures,
      c.junctor_curve.ensures,
      c.frame_top-from.ensures.value,
      c.frame_top.ensures.value,
      c.loop-frames.invariant,
      map_longer bundle c.loop-frames.frames,
    )
    (simp append_assoc)
