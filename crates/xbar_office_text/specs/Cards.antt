use Rattle.std.specs.Prelude.{ℕ, List, [], ◌∷◌, codes, decimal, flat_map}
use Rattle.std.specs.List.{concat}
use Rattle.xbar_equip.specs.Link.{link_text}
use Rattle.xbar_office.specs.declared.reply.Card.{Card}
use Rattle.xbar_office.specs.declared.reply.Record.{Record}
use Rattle.xbar_office_text.specs.declared.card_rows.TheConstants.{SIDE}
use Rattle.xbar_office_text.specs.declared.cards.TheConstants.{LOWER_EDGE, UPPER_EDGE}
use Rattle.xbar_office_text.specs.CardRows.{row, link_rows}

-- the title of a card: which link is faulty
unfoldable pub title_row : Card → List ℕ
title_row card =
    row (codes "  /  ") (concat
    (codes "TROUBLE CARD: " ∷ link_text card.link ∷ codes " is faulty" ∷ []))

-- whose card it is: the turn and the number of the job
unfoldable pub job_row : Record → List ℕ
job_row owner =
    row (codes " /   ") (concat
    (codes "turn " ∷ decimal owner.turn ∷ codes ", job " ∷ decimal owner.job_no ∷ []))

-- the marker that met the link, and in which trial
unfoldable pub trial_row : Record → Card → List ℕ
trial_row owner card =
    row SIDE.now (concat
    (codes "marker " ∷ decimal owner.marker ∷ codes ", trial " ∷ decimal card.trial ∷ []))

-- a trouble card, below an empty line
unfoldable pub card_text : Record → Card → List ℕ
card_text owner card =
    concat (UPPER_EDGE.now ∷ title_row card ∷ job_row owner ∷ trial_row owner card
    ∷ link_rows card.link ∷ LOWER_EDGE.now ∷ [])

-- the cards of a job, in the order of its trials
unfoldable pub cards_of : Record → List ℕ
cards_of owner = flat_map (card_text owner) owner.reply.cards
