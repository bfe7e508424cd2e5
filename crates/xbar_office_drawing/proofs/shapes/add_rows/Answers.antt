use Rattle.std.proofs.Common.{append_assoc}
use Rattle.xbar_office_drawing.{specs.Shapes.frame_row, proofs.Longer.flat_map_longer}
use Rattle.xbar_office_drawing.proofs.shapes.add_rows.Goals as goal

pub loop-switch-preserved : goal.loop-switch-preserved
unfolding frame_row
loop-switch-preserved c =
    rw (
      c.in_ok-add_shapes.ensures,
      c.level-height.ensures.value,
      c.loop-switch.invariant,
      flat_map_longer (frame_row c.args.frame.now c.args.class.now) c.loop-switch.switch,
    )
    (simp append_assoc)
