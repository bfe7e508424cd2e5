use Rattle.std.specs.Prelude.{ℕ, ◌+◌, List, [], ◌∷◌}
use Rattle.xbar_equip.specs.Word.{Word, word_number, LineSwitch, LineJunctor, TrunkSwitch, TrunkJunctor}
use Rattle.xbar_equip.specs.declared.path.Path.{Path}
use Rattle.xbar_equip.specs.declared.crosspoint.Crosspoint.{Crosspoint}

-- the crosspoint that joins field `field` of a switch to a place: closed, the field holds one plus
-- the place
abbrev pub crosspoint_at : Word → ℕ → ℕ → Crosspoint
crosspoint_at switch field place =
    record { word = word_number switch; field = field; value = 1 + place }

-- the four crosspoints of a path, in the order in which they are closed and opened: line to line
-- link, line link to junctor, junctor to trunk link, trunk link to trunk place
abbrev pub crosspoints : Path → List Crosspoint
crosspoints path =
    crosspoint_at (LineSwitch path.line.frame path.line.switch) path.channel path.line.x ∷
    crosspoint_at (LineJunctor path.line.frame path.channel) path.place.frame path.line.switch ∷
    crosspoint_at (TrunkJunctor path.place.frame path.channel) path.line.frame path.place.switch ∷
    crosspoint_at (TrunkSwitch path.place.frame path.place.switch) path.channel
    path.place.appearance ∷ []
