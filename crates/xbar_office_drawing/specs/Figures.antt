-- The text of several figures, and the parts of a drawing.
use Rattle.std.specs.Prelude.{ℕ, ◌+◌, ◌*◌, ◌/◌, ◌%◌, List, [], ◌∷◌, flat_map}
use Rattle.std.specs.List.{concat}
use Rattle.svg.specs.Drawing.{group_end_text, group_text}
use Rattle.svg.specs.Figure.{Figure, figure_text}
use Rattle.xbar_office_drawing.specs.declared.placing.Rows.{Rows}

-- the text of figures, one after another
abbrev pub figures_text : List Figure → List ℕ
figures_text figures = flat_map figure_text figures

-- figures that are moved across and down
pub record Part : Type 0 where
  pub across : ℕ
  pub down : ℕ
  pub figures : List Figure

-- the text of a part: its figures in a group
unfoldable pub part_text : Part → List ℕ
part_text part =
    concat (group_text part.across part.down ∷ figures_text part.figures ∷ group_end_text ∷ [])

-- picture number k, counted from 0, of pictures that stand in rows, from this upper edge on
abbrev pub in_rows : Rows → ℕ → ℕ → List Figure → Part
in_rows rows top k figures = record {
  across = 40 + rows.width * (k % rows.count);
  down = top + rows.height * (k / rows.count);
  figures = figures;
}

-- pictures that stand in rows from this upper edge on, the first as number k
unfoldable pub laid_out : Rows → ℕ → ℕ → List (List Figure) → List Part
laid_out rows top k [] = []
laid_out rows top k (figures ∷ more) =
    in_rows rows top k figures ∷ laid_out rows top (k + 1) more
