-- The figures of a drawing that show closed crosspoints and cards, among all its figures.
use Rattle.std.specs.Prelude.{ℕ, ◌||◌, Bool, true, false, List, [], ◌∷◌, ◌++◌, codes, flat_map}
use Rattle.std.specs.Str.{bytes_eq}
use Rattle.svg.specs.Figure.{Figure}
use Rattle.svg.specs.declared.shape.ShapeOf.TheVariants.{Circle, Copy, Line, Rectangle, Text, Trail}
use Rattle.xbar_equip.specs.Crosspoint.{crosspoints}
use Rattle.xbar_equip.specs.declared.crosspoint.Crosspoint.{Crosspoint}
use Rattle.xbar_equip.specs.declared.path.Path.{Path}
use Rattle.xbar_office_drawing.specs.declared.switches.TheConstants.{LINE_JUNCTOR, LINE_SWITCH, TRUNK_JUNCTOR, TRUNK_SWITCH}
use Rattle.xbar_office_drawing.specs.Figures.{Part}
use Rattle.xbar_office_drawing.specs.Switches.{crossing, field_words, word_words}

-- all figures of some parts
abbrev pub figures_in : List Part → List Figure
figures_in parts = flat_map (λ part. part.figures) parts

-- whether a figure is a dot, the text of a word or a field, or the text of a card
abbrev pub is_evidence : Figure → Bool
is_evidence (Rectangle corner width height class) = false
is_evidence (Line from to class) = false
is_evidence (Circle center radius class) = true
is_evidence (Trail from bends class) = false
is_evidence (Text at class content) =
    bytes_eq class (codes "field") || bytes_eq class (codes "told")
is_evidence (Copy at name) = false

-- the figures of a closed crosspoint in the switch with this left edge: a dot at its field and its
-- value, and below the switch its word, its field and its value
abbrev pub crosspoint_evidence : ℕ → Crosspoint → List Figure
crosspoint_evidence left crosspoint =
    crossing left crosspoint ∷ word_words left crosspoint ∷ field_words left crosspoint ∷ []

-- the figures of the four crosspoints of a path, each in its switch
abbrev pub all_crosspoint_evidence : List Crosspoint → List Figure
all_crosspoint_evidence (first ∷ second ∷ third ∷ fourth ∷ []) =
    crosspoint_evidence LINE_SWITCH.left first ++ crosspoint_evidence LINE_JUNCTOR.left second
    ++ crosspoint_evidence TRUNK_JUNCTOR.left third ++ crosspoint_evidence TRUNK_SWITCH.left fourth
all_crosspoint_evidence _ = []

-- the figures that show the closed crosspoints of a path on its card
abbrev pub path_evidence : Path → List Figure
path_evidence path = all_crosspoint_evidence (crosspoints path)
