use Rattle.std.specs.Prelude.{ℕ, List, [], ◌∷◌, codes, decimal, flat_map, map}
use Rattle.std.specs.List.{concat}
use Rattle.std.specs.Borrow.{Bor}
use Rattle.svg.specs.Escape.{escaped}
use Rattle.svg.specs.declared.shape.Bend.{Bend}
use Rattle.svg.specs.declared.shape.Bend.TheVariants.{To, Curve}
use Rattle.svg.specs.declared.shape.Point.{Point}
use Rattle.svg.specs.declared.shape.ShapeOf.{ShapeOf}
use Rattle.svg.specs.declared.shape.ShapeOf.TheVariants.{Rectangle, Line, Circle, Trail, Text, Copy}

-- a figure that is drawn: a shape, with its texts and its bends themselves
abbrev pub Figure : Type 0
Figure = ShapeOf (List ℕ) (List Bend)

-- the figure of a shape, by what its texts and its bends are
abbrev pub figure_by : {T B : Type 0} → (T → List ℕ) → (B → List Bend) → ShapeOf T B → Figure
figure_by text way (Rectangle corner width height class) = Rectangle corner width height (text class)
figure_by text way (Line from to class) = Line from to (text class)
figure_by text way (Circle center radius class) = Circle center radius (text class)
figure_by text way (Trail from bends class) = Trail from (way bends) (text class)
figure_by text way (Text at class content) = Text at (text class) (text content)
figure_by text way (Copy at name) = Copy at (text name)

-- the figure that a shape of the program draws
abbrev pub figure_of : ShapeOf (Bor (List ℕ)) (Bor (List Bend)) → Figure
figure_of shape = figure_by (λ text. text.now) (λ bends. bends.now) shape

-- what a constant refers to
abbrev pub Fixed : Type 0 → Type 0
Fixed A = record { now : A }

-- the figures of shapes that stand in a constant
abbrev pub figures_of : List (ShapeOf (Fixed (List ℕ)) (Fixed (List Bend))) → List Figure
figures_of shapes = map (figure_by (λ text. text.now) (λ bends. bends.now)) shapes

-- the attribute with the class
abbrev pub in_class : List ℕ → List ℕ
in_class class = concat (codes " class=\"" ∷ escaped class ∷ codes "\"" ∷ [])

-- the two numbers of a point
unfoldable pub point_text : Point → List ℕ
point_text at = concat (decimal at.0 ∷ codes " " ∷ decimal at.1 ∷ [])

-- a bend as a command of a path: a straight stroke, or a curve with its two handles
unfoldable pub bend_text : Bend → List ℕ
bend_text (To to) = concat (codes "L" ∷ point_text to ∷ [])
bend_text (Curve first second to) =
    concat (codes "C" ∷ point_text first ∷ codes " " ∷ point_text second ∷ codes " "
    ∷ point_text to ∷ [])

-- the element of a figure, on a line of its own
unfoldable pub figure_text : Figure → List ℕ
figure_text (Rectangle corner width height class) =
    concat (codes "<rect x=\"" ∷ decimal corner.0 ∷ codes "\" y=\"" ∷ decimal corner.1
    ∷ codes "\" width=\"" ∷ decimal width ∷ codes "\" height=\"" ∷ decimal height ∷ codes "\""
    ∷ in_class class ∷ codes "/>\n" ∷ [])
figure_text (Line from to class) =
    concat (codes "<line x1=\"" ∷ decimal from.0 ∷ codes "\" y1=\"" ∷ decimal from.1
    ∷ codes "\" x2=\"" ∷ decimal to.0 ∷ codes "\" y2=\"" ∷ decimal to.1 ∷ codes "\""
    ∷ in_class class ∷ codes "/>\n" ∷ [])
figure_text (Circle center radius class) =
    concat (codes "<circle cx=\"" ∷ decimal center.0 ∷ codes "\" cy=\"" ∷ decimal center.1
    ∷ codes "\" r=\"" ∷ decimal radius ∷ codes "\"" ∷ in_class class ∷ codes "/>\n" ∷ [])
figure_text (Trail from bends class) =
    concat (codes "<path d=\"M" ∷ point_text from ∷ flat_map bend_text bends ∷ codes "\""
    ∷ in_class class ∷ codes "/>\n" ∷ [])
figure_text (Text at class content) =
    concat (codes "<text x=\"" ∷ decimal at.0 ∷ codes "\" y=\"" ∷ decimal at.1 ∷ codes "\""
    ∷ in_class class ∷ codes ">" ∷ escaped content ∷ codes "</text>\n" ∷ [])
figure_text (Copy at name) =
    concat (codes "<use href=\"#" ∷ escaped name ∷ codes "\" x=\"" ∷ decimal at.0
    ∷ codes "\" y=\"" ∷ decimal at.1 ∷ codes "\"/>\n" ∷ [])
