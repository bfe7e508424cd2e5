-- The page.
use Rattle.std.specs.Prelude.{ℕ, List, [], ◌∷◌, codes, decimal, flat_map, length}
use Rattle.std.specs.List.{concat}
use Rattle.xbar_office.specs.declared.reply.Record.{Record}
use Rattle.xbar_office_drawing.specs.Drawing.{style}
use Rattle.xbar_plan.specs.Tables.{Tables}
use Rattle.xbar_page.specs.declared.head.TheConstants.{CONTROLS, HEAD, PLAIN_STYLE, STYLE}
use Rattle.xbar_page.specs.declared.script.TheConstants.{SCRIPT}
use Rattle.xbar_page.specs.Links.{start_nav_text}
use Rattle.xbar_page.specs.Picture.{picture_text}
use Rattle.xbar_page.specs.Section.{section_end, section_text}
use Rattle.xbar_page.specs.Sections.{sections, turn_at}
use Rattle.xbar_page.specs.Stays.{sets_of, stays}
use Rattle.xbar_page.specs.Words.{asked_words}

-- the beginning of the page, with its style sheets and its controls
unfoldable pub head_text : List ℕ
head_text =
    concat (HEAD.now ∷ style ∷ STYLE.now ∷ codes "</style>\n<noscript><style>" ∷ PLAIN_STYLE.now
    ∷ CONTROLS.now ∷ [])

-- the end of the page
unfoldable pub foot_text : List ℕ
foot_text =
    concat (codes "</main>\n<script>" ∷ SCRIPT.now ∷ codes "</script>\n</body>\n</html>\n" ∷ [])

-- the section of the empty office, before all turns
unfoldable pub start_text : List Record → List ℕ
start_text records =
    concat (codes "<section id=\"start\">\n<h2>The office before all turns</h2>\n"
    ∷ start_nav_text (turn_at records 0)
    ∷ codes "<ul>\n<li>No path stands: all crosspoints are open.</li>\n"
    ∷ codes "<li>Jobs that take their turn: " ∷ decimal (length records)
    ∷ codes ".</li>\n</ul>\n"
    ∷ section_end ∷ [])

-- a turn in the list of all turns
unfoldable pub turn_item : Record → List ℕ
turn_item owner =
    concat (codes "<li><a href=\"#turn" ∷ decimal owner.turn ∷ codes "\">" ∷ decimal owner.turn
    ∷ codes ": " ∷ asked_words owner.job ∷ codes "</a></li>\n" ∷ [])

-- the list of all turns
unfoldable pub turns_text : List Record → List ℕ
turns_text records =
    concat (codes "<details id=\"list\">\n<summary>All turns</summary>\n<ol id=\"turns\">\n"
    ∷ codes "<li><a href=\"#start\">before all turns</a></li>\n"
    ∷ flat_map turn_item records ∷ codes "</ol>\n</details>\n</div>\n" ∷ [])

-- an office turn by turn: its sections, the list of its turns, and its picture
unfoldable pub office_page : Tables → List Record → List ℕ
office_page plan records =
    concat (head_text ∷ start_text records ∷ flat_map (section_text plan) (sections plan records)
    ∷ turns_text records ∷ picture_text plan (stays (sets_of (sections plan records)))
    ∷ foot_text ∷ [])
