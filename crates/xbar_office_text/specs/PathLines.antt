use Rattle.std.specs.Prelude.{ℕ, nat_lt, List, [], ◌∷◌, ◌++◌, codes, decimal, map, if◌then◌else◌}
use Rattle.std.specs.List.{concat}
use Rattle.xbar_equip.specs.Channel.{channel_text}
use Rattle.xbar_equip.specs.Crosspoint.{crosspoints}
use Rattle.xbar_equip.specs.Len.{line_text}
use Rattle.xbar_equip.specs.Link.{link_text}
use Rattle.xbar_equip.specs.Path.{path_text, line_link, junctor, trunk_link}
use Rattle.xbar_equip.specs.Ten.{place_text}
use Rattle.xbar_equip.specs.declared.path.Path.{Path}
use Rattle.xbar_office_text.specs.declared.path.lines.TheConstants.{EDGES}

-- the title of a path: its line, what it leads to, and its channel
unfoldable pub title_line : Path → List ℕ → List ℕ
title_line path member =
    concat (path_text path ∷ codes ": line " ∷ line_text path.line ∷ codes " to " ∷ member
    ∷ codes ", channel " ∷ channel_text path.channel ∷ codes "\n" ∷ [])

-- the upper edges of the two frames
unfoldable pub frames_line : Path → List ℕ
frames_line path =
    concat (codes "         +-- line link frame " ∷ decimal path.line.frame ∷ codes " --+         +- trunk link frame " ∷ decimal path.place.frame
    ∷ codes " --+\n" ∷ [])

-- the path from its line to its place: through two switches of each frame, over its three links
unfoldable pub links_line : Path → List ℕ
links_line path =
    concat (line_text path.line ∷ codes " ----X-------- " ∷ link_text (line_link path) ∷ codes " --------X--" ∷ link_text (junctor path)
    ∷ codes "--X-------- " ∷ link_text (trunk_link path) ∷ codes " --------X---- " ∷ place_text path.place ∷ codes "\n" ∷ [])

-- the lower edges of the two frames
unfoldable pub edges_line : List ℕ
edges_line = EDGES.now

-- a switch, by its frame and its number on the frame
unfoldable pub switch_text : ℕ → ℕ → List ℕ
switch_text frame switch = concat (decimal frame ∷ codes "," ∷ decimal switch ∷ [])

-- the four switches: line switch, line junctor switch, trunk junctor switch, trunk switch
unfoldable pub switches_line : Path → List ℕ
switches_line path =
    concat (codes "switch  " ∷ switch_text path.line.frame path.line.switch
    ∷ codes "                     " ∷ switch_text path.line.frame path.channel
    ∷ codes "       " ∷ switch_text path.place.frame path.channel
    ∷ codes "                     " ∷ switch_text path.place.frame path.place.switch ∷ codes "\n"
    ∷ [])

-- a number below a thousand, right-aligned in three columns
unfoldable pub in_three : ℕ → List ℕ
in_three number =
    if nat_lt number 10 then codes "  " ++ decimal number
    else (if nat_lt number 100 then codes " " ++ decimal number else decimal number)

-- a row of four numbers, one under each switch
unfoldable pub numbers_line : List ℕ → List ℕ → List ℕ
numbers_line name (first ∷ second ∷ third ∷ fourth ∷ []) =
    concat (name ∷ in_three first ∷ codes "                     " ∷ in_three second
    ∷ codes "       " ∷ in_three third ∷ codes "                     " ∷ in_three fourth
    ∷ codes "\n" ∷ [])
numbers_line name _ = []

-- the row of words: that of each crosspoint that the path closes
abbrev pub words_line : Path → List ℕ
words_line path =
    numbers_line (codes "word    ") (map (λ crosspoint. crosspoint.word) (crosspoints path))

-- the row of fields: that of each crosspoint that the path closes
abbrev pub fields_line : Path → List ℕ
fields_line path =
    numbers_line (codes "field   ") (map (λ crosspoint. crosspoint.field) (crosspoints path))

-- the row of values: what the field of each of these crosspoints holds
abbrev pub values_line : Path → List ℕ
values_line path =
    numbers_line (codes "holds   ") (map (λ crosspoint. crosspoint.value) (crosspoints path))

-- a path in eight lines of a terminal
unfoldable pub path_lines : Path → List ℕ → List ℕ
path_lines path member =
    concat (title_line path member ∷ frames_line path ∷ links_line path ∷ edges_line
    ∷ switches_line path ∷ words_line path ∷ fields_line path ∷ values_line path ∷ [])
