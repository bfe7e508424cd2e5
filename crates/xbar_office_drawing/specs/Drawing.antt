-- A drawing of an office after its records.
use Rattle.std.specs.Prelude.{ℕ, ◌+◌, ◌*◌, ◌-◌, ◌/◌, List, [], ◌∷◌, ◌++◌, codes, decimal, flat_map, length, map}
use Rattle.std.specs.List.{concat}
use Rattle.svg.specs.Drawing.{foot_text, head_text}
use Rattle.svg.specs.Figure.{Figure}
use Rattle.svg.specs.declared.shape.ShapeOf.TheVariants.{Text}
use Rattle.xbar_equip.specs.declared.path.Path.{Path}
use Rattle.xbar_office.specs.declared.reply.Card.{Card}
use Rattle.xbar_office.specs.declared.reply.Record.{Record}
use Rattle.xbar_plan.specs.Tables.{Tables}
use Rattle.xbar_office_drawing.specs.declared.drawing.TheConstants.{STYLE}
use Rattle.xbar_office_drawing.specs.declared.placing.TheConstants.{CARDS, INDEX, PATH_CARDS}
use Rattle.xbar_office_drawing.specs.declared.owned_card.OwnedCard.{OwnedCard}
use Rattle.xbar_office_drawing.specs.CardFace.{card_face}
use Rattle.xbar_office_drawing.specs.Figures.{Part, laid_out, part_text}
use Rattle.xbar_office_drawing.specs.Index.{entry}
use Rattle.xbar_office_drawing.specs.Names.{line_name, names, trunk_name}
use Rattle.xbar_office_drawing.specs.Office.{office}
use Rattle.xbar_office_drawing.specs.PathInOffice.{path_dots, path_trails}
use Rattle.xbar_office_drawing.specs.Shapes.{shapes_text}
use Rattle.xbar_office_drawing.specs.Switches.{path_card}

-- ---- the cards that are drawn

-- a card, with the turn, job and marker of its record
abbrev pub owned_by : Record → Card → OwnedCard
owned_by owner card =
    record { turn = owner.turn; job_no = owner.job_no; marker = owner.marker; card = card }

-- the cards of a record
abbrev pub cards_in : Record → List OwnedCard
cards_in owner = map (owned_by owner) owner.reply.cards

-- the cards of all records
abbrev pub all_cards : List Record → List OwnedCard
all_cards records = flat_map cards_in records

-- ---- the picture of the office

-- the number of paths, and the number of crosspoints that they close
unfoldable pub count_text : ℕ → List ℕ
count_text count =
    concat (codes "paths: " ∷ decimal count ∷ codes ", crosspoints closed: " ∷ decimal (4 * count)
    ∷ [])

-- the office with its paths: their number, their trails, over them their dots, and their names
unfoldable pub office_with : Tables → List Path → List Figure
office_with plan paths =
    Text (16, 30) (codes "big") (count_text (length paths)) ∷ office plan ++ flat_map (path_trails plan) paths
    ++ flat_map (path_dots plan) paths ++ names plan paths

-- a path alone, with its names in the first columns
unfoldable pub path_alone : Tables → Path → List Figure
path_alone plan path =
    path_trails plan path ++ path_dots plan path ++ line_name plan 0 path ++ trunk_name plan 0 path

-- ---- what is where

-- how many rows of so many pictures there are
abbrev pub row_count : ℕ → ℕ → ℕ
row_count count pictures = (pictures + count - 1) / count

-- the upper edge of the first card of a path, below the index of so many paths
abbrev pub paths_top : ℕ → ℕ
paths_top paths = 940 + INDEX.height * row_count INDEX.count paths

-- the upper edge of the first trouble card
abbrev pub cards_top : ℕ → ℕ
cards_top paths = paths_top paths + PATH_CARDS.height * row_count PATH_CARDS.count paths

-- the height of a drawing with so many paths and cards
abbrev pub drawing_height : ℕ → ℕ → ℕ
drawing_height paths cards = cards_top paths + CARDS.height * row_count CARDS.count cards

-- the parts of a drawing: the office, the index of the paths, a card for each path, and the trouble
-- cards
unfoldable pub drawing_parts : Tables → List Path → List OwnedCard → List Part
drawing_parts plan paths cards =
    record { across = 0; down = 0; figures = office_with plan paths }
    ∷ laid_out INDEX 920 0 (map (entry plan) paths)
    ++ laid_out PATH_CARDS (paths_top (length paths)) 0 (map (path_card plan) paths)
    ++ laid_out CARDS (cards_top (length paths)) 0 (map card_face cards)

-- ---- the drawing

-- the style sheet, which says how each class looks
abbrev pub style : List ℕ
style = STYLE.now

-- the sheet on which a drawing is
abbrev pub sheet_text : List ℕ
sheet_text = codes "<rect width=\"100%\" height=\"100%\" class=\"sheet\"/>\n"

-- a drawing, 1,600 units wide
unfoldable pub drawing_of : Tables → List Path → List OwnedCard → List ℕ
drawing_of plan paths cards =
    concat (head_text 1600 (drawing_height (length paths) (length cards)) style ∷ sheet_text
    ∷ shapes_text ∷ flat_map part_text (drawing_parts plan paths cards) ∷ foot_text ∷ [])

-- an office after its records, with all cards that are among them
abbrev pub office_drawing : Tables → List Path → List Record → List ℕ
office_drawing plan paths records = drawing_of plan paths (all_cards records)
