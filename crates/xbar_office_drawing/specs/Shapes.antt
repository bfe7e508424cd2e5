-- What is drawn once and copied: the two kinds of frames, the mesh of a switch, and a blank card.
use Rattle.std.specs.Prelude.{ℕ, ◌+◌, ◌*◌, ◌-◌, ◌/◌, ◌%◌, List, [], ◌∷◌, ◌++◌, codes, flat_map, map}
use Rattle.std.specs.List.{concat, range_with_len}
use Rattle.svg.specs.Drawing.{group_end_text, named_group_text}
use Rattle.svg.specs.Figure.{Figure, figures_of}
use Rattle.svg.specs.declared.shape.ShapeOf.TheVariants.{Line, Rectangle}
use Rattle.svg.specs.declared.shape.Point.{Point}
use Rattle.xbar_office_drawing.specs.declared.shapes.Frame.{Frame}
use Rattle.xbar_office_drawing.specs.declared.shapes.TheConstants.{CARD, LINE_FRAME, MESH, SWITCH_WIDTH, TRUNK_FRAME}
use Rattle.xbar_office_drawing.specs.Figures.{figures_text}

-- ---- frames

-- the middle of the row of a switch in its frame
abbrev pub level : ℕ → ℕ
level switch = 4 + 8 * switch

-- a link between two switches on either side, whose numbers are the digits of its own
unfoldable pub inner_link : ℕ → ℕ → ℕ → Figure
inner_link left right link =
    Line (left, level (link / 10)) (right, level (link % 10)) (codes "idle")

-- the box of a switch
abbrev pub switch_box : ℕ → ℕ → Figure
switch_box left switch = Rectangle (left, level switch - 3) SWITCH_WIDTH 6 (codes "switch")

-- a row of a frame: the lines or trunks of a switch, in this class, that switch, and the junctor
-- switch in the same row
unfoldable pub frame_row : Frame → List ℕ → ℕ → List Figure
frame_row frame class switch =
    Line (frame.from, level switch) (frame.to, level switch) class
    ∷ switch_box frame.left switch ∷ switch_box frame.right switch ∷ []

-- a frame: its edge, its links, and its rows
unfoldable pub frame_figures : Frame → List ℕ → List Figure
frame_figures frame class =
    Rectangle (0, 0) frame.width 80 (codes "frame")
    ∷ map (inner_link (frame.left + SWITCH_WIDTH) frame.right) (range_with_len 0 100)
    ++ flat_map (frame_row frame class) (range_with_len 0 10)

-- the two kinds of frames
abbrev pub line_frame : List Figure
line_frame = frame_figures LINE_FRAME (codes "lines")

abbrev pub trunk_frame : List Figure
trunk_frame = frame_figures TRUNK_FRAME (codes "trunks")

-- ---- a blank card

-- the upper left corner of the place of a digit in a row
abbrev pub digit_point : ℕ → ℕ → Point
digit_point row digit = (190 + 28 * digit, 142 + 26 * row)

-- one of three rows of ten places
abbrev pub digit_place : ℕ → Figure
digit_place place = Rectangle (digit_point (place / 10) (place % 10)) 9 15 (codes "place")

-- a card with no holes
unfoldable pub blank_card : List Figure
blank_card = figures_of CARD ++ map digit_place (range_with_len 0 30)

-- ---- all of them

-- all figures that are drawn once and copied
abbrev pub shape_figures : List Figure
shape_figures = line_frame ++ trunk_frame ++ blank_card ++ figures_of MESH

-- figures as a group with a name
unfoldable pub named_text : List ℕ → List Figure → List ℕ
named_text name figures =
    concat (named_group_text name ∷ figures_text figures ∷ group_end_text ∷ [])

-- the shapes, which are not drawn where they stand; a mesh is repeated as a pattern
unfoldable pub shapes_text : List ℕ
shapes_text =
    concat (codes "<defs>\n" ∷ named_text (codes "line-frame") line_frame
    ∷ named_text (codes "trunk-frame") trunk_frame ∷ named_text (codes "blank-card") blank_card
    ∷ codes "<pattern id=\"mesh\" width=\"5\" height=\"5\" patternUnits=\"userSpaceOnUse\">\n"
    ∷ figures_text (figures_of MESH) ∷ codes "</pattern>\n</defs>\n" ∷ [])
