-- A section as text.
use Rattle.std.specs.Prelude.{ℕ, Some, List, [], ◌∷◌, codes, decimal, flat_map, map}
use Rattle.std.specs.List.{concat}
use Rattle.svg.specs.Escape.{escaped}
use Rattle.svg.specs.Figure.{Figure}
use Rattle.xbar_equip.specs.declared.path.Path.{Path}
use Rattle.xbar_office.specs.declared.reply.Record.{Record}
use Rattle.xbar_office_drawing.specs.CardFace.{card_face}
use Rattle.xbar_office_drawing.specs.Drawing.{cards_in}
use Rattle.xbar_office_drawing.specs.Figures.{figures_text}
use Rattle.xbar_office_drawing.specs.Switches.{path_card}
use Rattle.xbar_office_drawing.specs.declared.owned_card.OwnedCard.{OwnedCard}
use Rattle.xbar_plan.specs.Tables.{Tables}
use Rattle.xbar_report.specs.Text.{card_lines, record_line}
use Rattle.xbar_page.specs.Links.{nav_text, section_name}
use Rattle.xbar_page.specs.Sections.{Section}
use Rattle.xbar_page.specs.Words.{asked_words, set_up, card_words, sentences}

-- the beginning of a turn's section: its name and its heading
unfoldable pub title_text : Record → List ℕ
title_text owner =
    concat (codes "<section id=\"" ∷ section_name (Some owner.turn) ∷ codes "\">\n<h2>Turn "
    ∷ decimal owner.turn ∷ codes ": " ∷ asked_words owner.job ∷ codes "</h2>\n" ∷ [])

-- the lines of a record and of its cards, as a replay writes them: digits, letters, commas and
-- hyphens, so nothing that needs escaping
unfoldable pub lines_text : Record → List ℕ
lines_text owner =
    concat (codes "<pre><code>" ∷ record_line owner ∷ card_lines owner ∷ codes "</code></pre>\n"
    ∷ [])

-- a sentence as an item of the list
unfoldable pub item_text : List ℕ → List ℕ
item_text sentence = concat (codes "<li>" ∷ escaped sentence ∷ codes "</li>\n" ∷ [])

-- the sentence of a trouble card as an item of the list
unfoldable pub card_item_text : List ℕ → List ℕ
card_item_text sentence =
    concat (codes "<li class=\"trouble\">" ∷ escaped sentence ∷ codes "</li>\n" ∷ [])

-- what happened in a turn, as a list of sentences
unfoldable pub words_text : Tables → Record → List ℕ
words_text plan owner =
    concat (codes "<ul>\n" ∷ flat_map item_text (sentences plan owner)
    ∷ flat_map card_item_text (map card_words owner.reply.cards) ∷ codes "</ul>\n" ∷ [])

-- the beginning of figures of a class, 480 units wide
unfoldable pub inset_start : ℕ → List ℕ → List ℕ
inset_start height class =
    concat (codes "<svg xmlns=\"http://www.w3.org/2000/svg\" viewBox=\"0 0 480 " ∷ decimal height
    ∷ codes "\" class=\"" ∷ class ∷ codes "\">\n" ∷ [])

-- figures of a class, 480 units wide
unfoldable pub inset_text : ℕ → List ℕ → List Figure → List ℕ
inset_text height class figures =
    concat (inset_start height class ∷ figures_text figures ∷ codes "</svg>\n" ∷ [])

-- a trouble card of a turn
unfoldable pub card_inset : OwnedCard → List ℕ
card_inset card = inset_text 228 (codes "card-face") (card_face card)

-- the card of a path that a turn set up
unfoldable pub path_inset : Tables → Path → List ℕ
path_inset plan path = inset_text 164 (codes "switches") (path_card plan path)

-- the end of a section
abbrev pub section_end : List ℕ
section_end = codes "</section>\n"

-- the section of a turn: its heading, its links, what happened, its trouble cards, the cards of the
-- paths that it set up, and its lines
unfoldable pub section_text : Tables → Section → List ℕ
section_text plan section =
    concat (title_text section.owner ∷ nav_text section.links ∷ words_text plan section.owner
    ∷ flat_map card_inset (cards_in section.owner)
    ∷ flat_map (path_inset plan) (set_up section.owner.reply.end)
    ∷ lines_text section.owner ∷ section_end ∷ [])
