-- A trouble card as a punched card with one corner cut.
use Rattle.std.specs.Prelude.{ℕ, ◌+◌, ◌*◌, List, [], ◌∷◌, ◌++◌, codes, decimal}
use Rattle.svg.specs.Figure.{Figure}
use Rattle.svg.specs.declared.shape.ShapeOf.TheVariants.{Copy, Rectangle, Text}
use Rattle.svg.specs.declared.shape.Point.{Point}
use Rattle.xbar_equip.specs.Link.{Link, link_text}
use Rattle.xbar_equip.specs.declared.link.LinkKind.{LinkKind}
use Rattle.xbar_equip.specs.declared.link.LinkKind.TheVariants.{LineLink, Junctor, TrunkLink}
use Rattle.xbar_office_text.specs.CardRows.{first_name, second_name}
use Rattle.xbar_office_drawing.specs.declared.card_face.TheConstants.{JOB, MARKER, TRIAL, TURN}
use Rattle.xbar_office_drawing.specs.declared.owned_card.OwnedCard.{OwnedCard}
use Rattle.xbar_office_drawing.specs.Shapes.{digit_point}

-- a number of the card, below its name
abbrev pub number_entry : ℕ → List ℕ → ℕ → List Figure
number_entry left name value =
    Text (left, 60) (codes "small") name
    ∷ Text (left, 80) (codes "plain") (decimal value) ∷ []

-- the text of a card: which link is faulty
abbrev pub card_words : OwnedCard → Figure
card_words owned =
    Text (460, 34) (codes "told") (link_text owned.card.link ++ codes " is faulty")

-- a hole of a card, where a place was
abbrev pub hole : Point → Figure
hole corner = Rectangle corner 9 15 (codes "hole")

-- the upper left corner of the place of a kind of link
abbrev pub kind_point : LinkKind → Point
kind_point LineLink = (140, 98)
kind_point Junctor = (250, 98)
kind_point TrunkLink = (360, 98)

-- a digit of a link: its name, and a hole in its row
abbrev pub named_digit : ℕ → List ℕ → ℕ → List Figure
named_digit row name digit =
    Text (178, 155 + 26 * row) (codes "end") name ∷ hole (digit_point row digit) ∷ []

-- a link as it is punched: its kind, and each of its digits in a row
abbrev pub link_holes : Link → List Figure
link_holes link =
    hole (kind_point link.kind) ∷ named_digit 0 (first_name link.kind) link.frame
    ++ named_digit 1 (second_name link.kind) link.at ++ named_digit 2 (codes "channel") link.channel

-- a card: a blank one; its title and text; the turn, job and marker that it belongs to, and the
-- trial that met the link; and its holes
unfoldable pub card_face : OwnedCard → List Figure
card_face owned =
    Copy (0, 0) (codes "blank-card") ∷ Text (40, 34) (codes "big") (codes "TROUBLE")
    ∷ card_words owned ∷ number_entry TURN.0 TURN.1.now owned.turn
    ++ number_entry JOB.0 JOB.1.now owned.job_no ++ number_entry MARKER.0 MARKER.1.now owned.marker
    ++ number_entry TRIAL.0 TRIAL.1.now owned.card.trial ++ link_holes owned.card.link
