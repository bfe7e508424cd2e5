use Rattle.std.proofs.Common.{map, flat_map, string_bytes}
use Rattle.{std.specs.List.range_with_len, svg.specs.Figure.figures_of}
use Rattle.xbar_office_drawing.{specs.{Office.{bundle, fault, office, two_frames}, declared.office.TheConstants.{HEADS, KEY}}, proofs.Longer.all_joined}
use Rattle.xbar_office_drawing.proofs.office.add_office.Goals as goal

pub returns : goal.returns
unfolding office
returns c =
    rw (c.in_ok-add_faults.ensures, c.in_ok-add_frames.ensures, c.in_ok-add_bundles.ensures, c.in_ok-add_shapes-2.ensures, c.in_ok-add_shapes.ensures)
    (all_joined (string_bytes c.args.text.now) (figures_of KEY) (figures_of HEADS) (map bundle (range_with_len 0 100))
    (flat_map two_frames (range_with_len 0 10)) (map fault c.args.plan.now.faults))
