-- The index of the paths.
use Rattle.std.specs.Prelude.{ℕ, Option, Some, None, List, [], ◌∷◌, ◌++◌, codes}
use Rattle.std.specs.List.{concat}
use Rattle.svg.specs.Figure.{Figure}
use Rattle.svg.specs.declared.shape.ShapeOf.TheVariants.{Line, Text}
use Rattle.xbar_equip.specs.DirNo.{dir_no_text}
use Rattle.xbar_equip.specs.Path.{path_text}
use Rattle.xbar_equip.specs.declared.path.Path.{Path}
use Rattle.xbar_office_text.specs.Ends.{member_text}
use Rattle.xbar_plan.specs.Tables.{Tables}
use Rattle.xbar_office_drawing.specs.Names.{first_number}
use Rattle.xbar_office_drawing.specs.PathInOffice.{use_class}

-- the number of a line, if it has one, before what its path leads to
abbrev pub number_before : Option ℕ → List ℕ
number_before None = []
number_before (Some number) = dir_no_text number ++ codes " "

-- what a path joins: the number of its line, if it has one, and the member where it ends
unfoldable pub joined_text : Tables → Path → List ℕ
joined_text plan path =
    concat (number_before (first_number plan path.line) ∷ codes "to " ∷ member_text plan path ∷ [])

-- an entry of the index: how the path is drawn, its core on its edge, its text, and what it joins
unfoldable pub entry : Tables → Path → List Figure
entry plan path =
    Line (0, 15) (30, 15) (use_class plan path ++ codes " edge")
    ∷ Line (0, 15) (30, 15) (use_class plan path)
    ∷ Text (40, 20) (codes "plain") (path_text path)
    ∷ Text (134, 20) (codes "plain") (joined_text plan path) ∷ []
