use Rattle.std.proofs.Common.{◌+◌, codes, flat_map, map, string_bytes}
use Rattle.{std.specs.List.range_with_len, svg.specs.declared.shape.ShapeOf.TheVariants.Rectangle}
use Rattle.xbar_office_drawing.{specs.{Shapes.{frame_figures, frame_row, inner_link}, declared.shapes.TheConstants.SWITCH_WIDTH}, proofs.Longer.named_joined}
use Rattle.xbar_office_drawing.proofs.shapes.add_named_frame.Goals as goal

pub returns : goal.returns
unfolding frame_figures
returns c =
    rw (
      c.in_ok-add_group_end.ensures,
      c.in_ok-add_rows.ensures,
      c.in_ok-add_inner_links.ensures,
      c.in_ok-add_shape.ensures,
      c.in_ok-add_named_group.ensures,
    )
    (named_joined (string_bytes c.args.text.now) c.args.name.now (Rectangle (0, 0) c.args.frame.now.width 80 (codes "frame"))
    (map (inner_link (c.args.frame.now.left + SWITCH_WIDTH) c.args.frame.now.right) (range_with_len 0 100))
    (flat_map (frame_row c.args.frame.now c.args.class.now) (range_with_len 0 10)))
