use Rattle.std.specs.Prelude.{ℕ, List, [], ◌∷◌, ◌++◌, codes, decimal, flat_map}
use Rattle.std.specs.List.{concat}
use Rattle.xbar_equip.specs.Channel.{channel_text}
use Rattle.xbar_equip.specs.Len.{line_text}
use Rattle.xbar_equip.specs.Ten.{place_text}
use Rattle.xbar_equip.specs.declared.path.Path.{Path}
use Rattle.xbar_plan.specs.Tables.{Tables}
use Rattle.xbar_office_text.specs.Ends.{use_text}

-- a path in one line: line, line link frame, channel, trunk link frame, trunk place, and whose it
-- is
unfoldable pub glance_line : Tables → Path → List ℕ
glance_line plan path =
    concat (line_text path.line ∷ codes " --[frame " ∷ decimal path.line.frame ∷ codes "]-- channel " ∷ channel_text path.channel
    ∷ codes " --[frame " ∷ decimal path.place.frame ∷ codes "]-- " ∷ place_text path.place ∷ codes "   " ∷ use_text plan path ∷ codes "\n" ∷ [])

-- all paths at a glance: a line each, in the order of the set, or that there is none
unfoldable pub glance : Tables → List Path → List ℕ
glance plan [] = codes "No path is up.\n"
glance plan (path ∷ paths) =
    codes "PATHS AT A GLANCE\n" ++ flat_map (glance_line plan) (path ∷ paths)
