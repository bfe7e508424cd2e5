-- A path in the picture of its office, from the line's place to the trunk's.
use Rattle.std.specs.Prelude.{ℕ, ◌+◌, ◌*◌, List, [], ◌∷◌, ◌++◌, codes, if◌then◌else◌}
use Rattle.svg.specs.Figure.{Figure}
use Rattle.svg.specs.declared.shape.Bend.TheVariants.{To}
use Rattle.svg.specs.declared.shape.ShapeOf.TheVariants.{Circle, Trail}
use Rattle.svg.specs.declared.shape.Bend.{Bend}
use Rattle.svg.specs.declared.shape.Point.{Point}
use Rattle.xbar_equip.specs.Crosspoint.{crosspoints}
use Rattle.xbar_equip.specs.declared.crosspoint.Crosspoint.{Crosspoint}
use Rattle.xbar_equip.specs.declared.path.Path.{Path}
use Rattle.xbar_office.specs.Standing.{ends_at_register}
use Rattle.xbar_plan.specs.Tables.{Tables}
use Rattle.xbar_office_drawing.specs.declared.office.TheConstants.{LINE_JUNCTORS, LINE_SWITCHES, TRUNK_JUNCTORS, TRUNK_SWITCHES}
use Rattle.xbar_office_drawing.specs.declared.shapes.TheConstants.{SWITCH_WIDTH}
use Rattle.xbar_office_drawing.specs.Office.{junctor_curve, row}

-- the class of a path: a register's or a call's
abbrev pub use_class : Tables → Path → List ℕ
use_class plan path = if ends_at_register plan path then codes "register" else codes "call"

-- the rows of a path's four switches
abbrev pub line_row : Path → ℕ
line_row path = row path.line.frame path.line.switch

abbrev pub line_junctor_row : Path → ℕ
line_junctor_row path = row path.line.frame path.channel

abbrev pub trunk_junctor_row : Path → ℕ
trunk_junctor_row path = row path.place.frame path.channel

abbrev pub trunk_row : Path → ℕ
trunk_row path = row path.place.frame path.place.switch

-- the place of a path's line, left of its line switch
abbrev pub line_place : Path → Point
line_place path = (216 + 4 * path.line.x, line_row path)

-- the way of a path from there: through the line switch, along the line link, through the junctor
-- switch, along the junctor, through the other junctor switch, along the trunk link, and through
-- the trunk switch to the trunk's place
abbrev pub way : Path → List Bend
way path =
    To (LINE_SWITCHES + SWITCH_WIDTH, line_row path) ∷ To (LINE_JUNCTORS, line_junctor_row path)
    ∷ To (LINE_JUNCTORS + SWITCH_WIDTH, line_junctor_row path)
    ∷ junctor_curve (line_junctor_row path) TRUNK_JUNCTORS (trunk_junctor_row path)
    ∷ To (TRUNK_JUNCTORS + SWITCH_WIDTH, trunk_junctor_row path)
    ∷ To (TRUNK_SWITCHES, trunk_row path)
    ∷ To (1170 + 8 * path.place.appearance, trunk_row path) ∷ []

-- a path as a trail: its core on its edge
unfoldable pub path_trails : Tables → Path → List Figure
path_trails plan path =
    Trail (line_place path) (way path) (use_class plan path ++ codes " edge")
    ∷ Trail (line_place path) (way path) (use_class plan path) ∷ []

-- the dot of a crosspoint in a switch with this left edge, in this row: at its field
abbrev pub crosspoint_dot : List ℕ → ℕ → ℕ → Crosspoint → Figure
crosspoint_dot class left height crosspoint =
    Circle (left + 3 + 3 * crosspoint.field, height) 3 class

-- the dots of the crosspoints of a path, each in its switch
abbrev pub dots_of : List ℕ → Path → List Crosspoint → List Figure
dots_of class path (first ∷ second ∷ third ∷ fourth ∷ []) =
    crosspoint_dot class LINE_SWITCHES (line_row path) first
    ∷ crosspoint_dot class LINE_JUNCTORS (line_junctor_row path) second
    ∷ crosspoint_dot class TRUNK_JUNCTORS (trunk_junctor_row path) third
    ∷ crosspoint_dot class TRUNK_SWITCHES (trunk_row path) fourth ∷ []
dots_of class path _ = []

-- the four dots of a path
abbrev pub path_dots : Tables → Path → List Figure
path_dots plan path = dots_of (use_class plan path) path (crosspoints path)
