-- An office without its paths: ten line link frames at the left, ten trunk link frames at the
-- right, and the junctors between them.
use Rattle.std.specs.Prelude.{ℕ, ◌+◌, ◌*◌, ◌/◌, ◌%◌, List, [], ◌∷◌, ◌++◌, codes, decimal, flat_map, map}
use Rattle.std.specs.List.{range_with_len}
use Rattle.svg.specs.Figure.{Figure, figures_of}
use Rattle.svg.specs.declared.shape.ShapeOf.TheVariants.{Copy, Text, Trail}
use Rattle.svg.specs.declared.shape.Bend.{Bend}
use Rattle.svg.specs.declared.shape.Bend.TheVariants.{Curve, To}
use Rattle.xbar_equip.specs.Link.{Link}
use Rattle.xbar_equip.specs.declared.link.LinkKind.{LinkKind}
use Rattle.xbar_equip.specs.declared.link.LinkKind.TheVariants.{LineLink, Junctor, TrunkLink}
use Rattle.xbar_plan.specs.Tables.{Tables}
use Rattle.xbar_office_drawing.specs.declared.office.TheConstants.{HEADS, KEY, LINE_JUNCTORS, LINE_SWITCHES, TRUNK_JUNCTORS, TRUNK_SWITCHES}
use Rattle.xbar_office_drawing.specs.declared.shapes.TheConstants.{SWITCH_WIDTH}
use Rattle.xbar_office_drawing.specs.Shapes.{level}

-- the upper edge of a frame
abbrev pub frame_top : ℕ → ℕ
frame_top frame = 62 + 83 * frame

-- the middle of the row of a switch of a frame
abbrev pub row : ℕ → ℕ → ℕ
row frame switch = frame_top frame + level switch

-- a line link frame and the trunk link frame with the same number, each beside its number
abbrev pub two_frames : ℕ → List Figure
two_frames frame =
    Copy (210, frame_top frame) (codes "line-frame")
    ∷ Text (24, frame_top frame + 48) (codes "number") (decimal frame)
    ∷ Copy (958, frame_top frame) (codes "trunk-frame")
    ∷ Text (1576, frame_top frame + 48) (codes "number") (decimal frame) ∷ []

-- the curve of a junctor that comes from one height and ends at another
abbrev pub junctor_curve : ℕ → ℕ → ℕ → Bend
junctor_curve from end height = Curve (750, from) (750, height) (end, height)

-- the junctors between two frames, whose numbers are two digits, as one faint curve
abbrev pub bundle : ℕ → Figure
bundle frames =
    Trail (542, frame_top (frames / 10) + 40)
    (junctor_curve (frame_top (frames / 10) + 40) 958 (frame_top (frames % 10) + 40) ∷ [])
    (codes "bundle")

-- a link of a kind that is out of order, dashed, in its place
abbrev pub fault_in : LinkKind → Link → Figure
fault_in LineLink link =
    Trail (LINE_SWITCHES + SWITCH_WIDTH, row link.frame link.at)
    (To (LINE_JUNCTORS, row link.frame link.channel) ∷ []) (codes "fault")
fault_in Junctor link =
    Trail (LINE_JUNCTORS + SWITCH_WIDTH, row link.frame link.channel)
    (junctor_curve (row link.frame link.channel) TRUNK_JUNCTORS (row link.at link.channel) ∷ [])
    (codes "fault")
fault_in TrunkLink link =
    Trail (TRUNK_JUNCTORS + SWITCH_WIDTH, row link.frame link.channel)
    (To (TRUNK_SWITCHES, row link.frame link.at) ∷ []) (codes "fault")

-- a link that is out of order
abbrev pub fault : Link → Figure
fault link = fault_in link.kind link

-- the office: the key, the names above the frames, the junctors, the frames, and the links that are
-- out of order
unfoldable pub office : Tables → List Figure
office plan =
    figures_of KEY ++ figures_of HEADS ++ map bundle (range_with_len 0 100)
    ++ flat_map two_frames (range_with_len 0 10) ++ map fault plan.faults
