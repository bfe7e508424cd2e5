-- Links from section to section.
use Rattle.std.specs.Prelude.{ℕ, Option, Some, None, List, [], ◌∷◌, ◌++◌, codes, decimal}
use Rattle.std.specs.List.{concat}
use Rattle.xbar_page.specs.declared.links.Links.{Links}

-- the name of a section: that of a turn, or that of the office before all turns
unfoldable pub section_name : Option ℕ → List ℕ
section_name None = codes "start"
section_name (Some turn) = codes "turn" ++ decimal turn

-- a link to a section
unfoldable pub link_to : List ℕ → Option ℕ → List ℕ → List ℕ
link_to relation to label =
    concat (codes "<a rel=\"" ∷ relation ∷ codes "\" href=\"#" ∷ section_name to ∷ codes "\">"
    ∷ label ∷ codes "</a>\n" ∷ [])

-- the link to the turn after, or only its label if there is none
unfoldable pub next_link : Option ℕ → List ℕ
next_link None = codes "<span>after &#8594;</span>\n"
next_link (Some turn) = link_to (codes "next") (Some turn) (codes "after &#8594;")

-- the links of a turn: to the turn before or to the office before all turns, and to the turn after
unfoldable pub nav_text : Links → List ℕ
nav_text links =
    concat (codes "<nav>\n" ∷ link_to (codes "prev") links.before (codes "&#8592; before")
    ∷ next_link links.after ∷ codes "</nav>\n" ∷ [])

-- the links of the office before all turns
unfoldable pub start_nav_text : Option ℕ → List ℕ
start_nav_text first = concat (codes "<nav>\n" ∷ next_link first ∷ codes "</nav>\n" ∷ [])
