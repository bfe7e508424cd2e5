use Rattle.std.specs.Prelude.{ℕ, ◌-◌, ◌==◌, Bool, List, [], ◌∷◌, ◌++◌, codes, flat_map, if◌then◌else◌, length, replicate}
use Rattle.std.specs.List.{concat, range_with_len}
use Rattle.xbar_equip.specs.Link.{Link, kind_eq}
use Rattle.xbar_equip.specs.declared.link.LinkKind.{LinkKind}
use Rattle.xbar_equip.specs.declared.link.LinkKind.TheVariants.{LineLink, Junctor, TrunkLink}
use Rattle.xbar_office_text.specs.declared.card_rows.TheConstants.{DIGITS, SIDE}

-- a text, filled up with blanks to this many places
unfoldable pub filled : ℕ → List ℕ → List ℕ
filled places text = text ++ replicate (places - length text) 32

-- a row of a card between its edges; the left one slants where the corner is cut
unfoldable pub row : List ℕ → List ℕ → List ℕ
row edge text = concat (edge ∷ filled 44 text ∷ codes "|\n" ∷ [])

-- a place of a card, punched or not
abbrev pub mark : Bool → List ℕ
mark punched = if punched then codes "#" else codes "."

-- ten places, of which the one with this number is punched
unfoldable pub ten_places : ℕ → List ℕ
ten_places digit = flat_map (λ place. codes " " ++ mark (place == digit)) (range_with_len 0 10)

-- the row of a digit, after its name
unfoldable pub digit_row : List ℕ → ℕ → List ℕ
digit_row name digit = row SIDE.now (filled 18 name ++ ten_places digit)

-- the row of the three kinds of link, of which one is punched
unfoldable pub kind_row : LinkKind → List ℕ
kind_row kind =
    row SIDE.now
    (concat (mark (kind_eq kind LineLink) ∷ codes " line link   " ∷ mark (kind_eq kind Junctor)
    ∷ codes " junctor   " ∷ mark (kind_eq kind TrunkLink) ∷ codes " trunk link" ∷ []))

-- the name of the first digit of a link
abbrev pub first_name : LinkKind → List ℕ
first_name LineLink = codes "line link frame"
first_name Junctor = codes "line link frame"
first_name TrunkLink = codes "trunk link frame"

-- the name of the second digit of a link
abbrev pub second_name : LinkKind → List ℕ
second_name LineLink = codes "line switch"
second_name Junctor = codes "trunk link frame"
second_name TrunkLink = codes "trunk switch"

-- a link as it is punched in a card: its kind, and a row for each of its digits
unfoldable pub link_rows : Link → List ℕ
link_rows link =
    concat (kind_row link.kind
    ∷ row SIDE.now DIGITS.now
    ∷ digit_row (first_name link.kind) link.frame ∷ digit_row (second_name link.kind) link.at
    ∷ digit_row (codes "channel") link.channel ∷ [])
