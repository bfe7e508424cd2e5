-- The picture of the office, with each path that any turn sets up.
use Rattle.std.specs.Prelude.{ℕ, Option, Some, None, List, [], ◌∷◌, ◌++◌, codes, decimal, filter, flat_map, length}
use Rattle.std.specs.List.{concat}
use Rattle.svg.specs.Escape.{escaped}
use Rattle.svg.specs.Figure.{Figure}
use Rattle.xbar_equip.specs.Path.{path_text}
use Rattle.xbar_office_drawing.specs.Drawing.{count_text, path_alone}
use Rattle.xbar_office_drawing.specs.Figures.{figures_text}
use Rattle.xbar_office_drawing.specs.Office.{office}
use Rattle.xbar_office_drawing.specs.Shapes.{shapes_text}
use Rattle.xbar_office_text.specs.Ends.{end_text}
use Rattle.xbar_plan.specs.Tables.{Tables}
use Rattle.xbar_page.specs.Stays.{stands_to_the_end}
use Rattle.xbar_page.specs.declared.picture.TheConstants.{HEAD}
use Rattle.xbar_page.specs.declared.stays.Stay.{Stay}

-- the attribute with the turn that takes a path out, if one does
abbrev pub until_text : Option ℕ → List ℕ
until_text None = []
until_text (Some turn) = codes "\" data-until=\"" ++ decimal turn

-- a path with the turn that sets it up and the turn that takes it out
unfoldable pub stay_text : Tables → Stay → List ℕ
stay_text plan stay =
    concat (codes "<g data-from=\"" ∷ decimal stay.from ∷ until_text stay.until
    ∷ codes "\">\n<title>" ∷ path_text stay.path ∷ codes ": " ∷ escaped (end_text plan stay.path)
    ∷ codes "</title>\n" ∷ figures_text (path_alone plan stay.path) ∷ codes "</g>\n" ∷ [])

-- how many paths stand after the last turn
abbrev pub last_count : List Stay → ℕ
last_count stays = length (filter stands_to_the_end stays)

-- the picture: the office, then each stay; its title tells of the office after the last turn
unfoldable pub picture_text : Tables → List Stay → List ℕ
picture_text plan stays =
    concat (HEAD.now ∷ shapes_text ∷ codes "<text x=\"16\" y=\"30\" class=\"big\" id=\"count\">"
    ∷ count_text (last_count stays) ∷ codes "</text>\n" ∷ figures_text (office plan)
    ∷ flat_map (stay_text plan) stays ∷ codes "</svg>\n</div>\n" ∷ [])

-- all figures of the picture but its shapes
abbrev pub picture_figures : Tables → List Stay → List Figure
picture_figures plan stays =
    office plan ++ flat_map (λ stay. path_alone plan stay.path) stays
