-- The card of a path: the path in words, and its four switches, each with its crosspoint, its word
-- and its field.
use Rattle.std.specs.Prelude.{ℕ, ◌+◌, ◌*◌, ◌-◌, List, [], ◌∷◌, ◌++◌, codes, decimal}
use Rattle.std.specs.List.{concat}
use Rattle.svg.specs.Figure.{Figure}
use Rattle.svg.specs.declared.shape.Bend.TheVariants.{To}
use Rattle.svg.specs.declared.shape.ShapeOf.TheVariants.{Circle, Rectangle, Text, Trail}
use Rattle.xbar_equip.specs.Channel.{channel_text}
use Rattle.xbar_equip.specs.Crosspoint.{crosspoints}
use Rattle.xbar_equip.specs.Len.{line_text}
use Rattle.xbar_equip.specs.Link.{link_text}
use Rattle.xbar_equip.specs.Path.{junctor, line_link, path_text, trunk_link}
use Rattle.xbar_equip.specs.Ten.{place_text}
use Rattle.xbar_equip.specs.declared.crosspoint.Crosspoint.{Crosspoint}
use Rattle.xbar_equip.specs.declared.path.Path.{Path}
use Rattle.xbar_office_text.specs.Ends.{end_text}
use Rattle.xbar_plan.specs.Tables.{Tables}
use Rattle.xbar_office_drawing.specs.declared.switches.Face.{Face}
use Rattle.xbar_office_drawing.specs.declared.switches.TheConstants.{LINE_JUNCTOR, LINE_SWITCH, TRUNK_JUNCTOR, TRUNK_SWITCH}

-- the height of a path's bar for a field
abbrev pub bar_at : Crosspoint → ℕ
bar_at crosspoint = 72 + 5 * crosspoint.field

-- the upright of the place that a field is joined to, in a switch with this left edge
abbrev pub upright_at : ℕ → Crosspoint → ℕ
upright_at left crosspoint = left + 5 * crosspoint.value - 3

-- the dot where the bar of a field crosses the upright of the place that the field is joined to
abbrev pub crossing : ℕ → Crosspoint → Figure
crossing left crosspoint =
    Circle (upright_at left crosspoint, bar_at crosspoint) 3 (codes "point")

-- the word of the switch, below it
abbrev pub word_words : ℕ → Crosspoint → Figure
word_words left crosspoint =
    Text (left, 140) (codes "field") (codes "word " ++ decimal crosspoint.word)

-- the field and what it holds, below that
abbrev pub field_words : ℕ → Crosspoint → Figure
field_words left crosspoint =
    Text (left, 158) (codes "field")
    (concat (codes "field " ∷ decimal crosspoint.field ∷ codes " = "
    ∷ decimal crosspoint.value ∷ []))

-- the stroke through a closed crosspoint: along the bar, then down the upright
abbrev pub closed_trail : ℕ → Crosspoint → Figure
closed_trail left crosspoint =
    Trail (left - 5, bar_at crosspoint)
    (To (upright_at left crosspoint, bar_at crosspoint) ∷ To (upright_at left crosspoint, 124) ∷ [])
    (codes "closed")

-- the name of a switch: its kind, its frame and its number on the frame
unfoldable pub switch_name : List ℕ → ℕ → ℕ → List ℕ
switch_name kind frame number =
    concat (kind ∷ codes " " ∷ decimal frame ∷ codes "," ∷ decimal number ∷ [])

-- a switch, by its kind, its frame and its number on the frame, with its places, its closed
-- crosspoint, its word and its field
unfoldable pub switch_face : Face → List ℕ → ℕ → ℕ → Crosspoint → List Figure
switch_face face kind frame number crosspoint =
    Text (face.left, 60) (codes "plain") (switch_name kind frame number)
    ∷ Rectangle (face.left, 70) (5 * face.places) 50 (codes "mesh")
    ∷ closed_trail face.left crosspoint ∷ crossing face.left crosspoint
    ∷ word_words face.left crosspoint ∷ field_words face.left crosspoint ∷ []

-- the four switches of a path: line switch, line junctor switch, trunk junctor switch, trunk switch
unfoldable pub switches_of : Path → List Crosspoint → List Figure
switches_of path (first ∷ second ∷ third ∷ fourth ∷ []) =
    switch_face LINE_SWITCH (codes "line switch") path.line.frame path.line.switch first
    ++ switch_face LINE_JUNCTOR (codes "junctor") path.line.frame path.channel second
    ++ switch_face TRUNK_JUNCTOR (codes "junctor") path.place.frame path.channel third
    ++ switch_face TRUNK_SWITCH (codes "trunk") path.place.frame path.place.switch fourth
switches_of path _ = []

-- the line of a path, its channel, what it leads to, and its trunk place, in words
unfoldable pub path_heading : Tables → Path → List ℕ
path_heading plan path =
    concat (codes "line " ∷ line_text path.line ∷ codes ", channel " ∷ channel_text path.channel
    ∷ codes ", " ∷ end_text plan path ∷ codes " at place " ∷ place_text path.place ∷ [])

-- the three links of a path
unfoldable pub path_links : Path → List ℕ
path_links path =
    concat (link_text (line_link path) ∷ codes ", " ∷ link_text (junctor path) ∷ codes ", "
    ∷ link_text (trunk_link path) ∷ [])

-- the title of a path's card, its links, and the path in words
unfoldable pub path_title : Tables → Path → List Figure
path_title plan path =
    Text (0, 16) (codes "big") (path_text path)
    ∷ Text (480, 16) (codes "end") (path_links path)
    ∷ Text (0, 36) (codes "plain") (path_heading plan path) ∷ []

-- the card of a path
unfoldable pub path_card : Tables → Path → List Figure
path_card plan path = path_title plan path ++ switches_of path (crosspoints path)
