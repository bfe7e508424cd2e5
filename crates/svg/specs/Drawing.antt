use Rattle.std.specs.Prelude.{ℕ, List, [], ◌∷◌, ◌++◌, codes, decimal, flat_map}
use Rattle.std.specs.List.{concat}
use Rattle.svg.specs.Escape.{escaped}
use Rattle.svg.specs.Figure.{Figure, figure_text}

-- the beginning of a drawing of this size, whose style sheet is elsewhere
unfoldable pub open_text : ℕ → ℕ → List ℕ
open_text width height =
    concat (codes "<svg xmlns=\"http://www.w3.org/2000/svg\" viewBox=\"0 0 " ∷ decimal width
    ∷ codes " " ∷ decimal height
    ∷ codes "\" width=\"" ∷ decimal width ∷ codes "\" height=\"" ∷ decimal height ∷ codes "\">\n"
    ∷ [])

-- the beginning of a drawing of this size, with its style sheet
unfoldable pub head_text : ℕ → ℕ → List ℕ → List ℕ
head_text width height style =
    concat (open_text width height ∷ codes "<style>" ∷ escaped style ∷ codes "</style>\n" ∷ [])

-- the end of a drawing
abbrev pub foot_text : List ℕ
foot_text = codes "</svg>\n"

-- the beginning of a group that is moved across and down by this much
unfoldable pub group_text : ℕ → ℕ → List ℕ
group_text across down =
    concat (codes "<g transform=\"translate(" ∷ decimal across ∷ codes " " ∷ decimal down
    ∷ codes ")\">\n" ∷ [])

-- the beginning of a group with a name
unfoldable pub named_group_text : List ℕ → List ℕ
named_group_text name = concat (codes "<g id=\"" ∷ escaped name ∷ codes "\">\n" ∷ [])

-- the end of a group
abbrev pub group_end_text : List ℕ
group_end_text = codes "</g>\n"

-- a drawing of these figures, each drawn over the one before
abbrev pub drawing_text : ℕ → ℕ → List ℕ → List Figure → List ℕ
drawing_text width height style figures =
    head_text width height style ++ flat_map figure_text figures ++ foot_text
