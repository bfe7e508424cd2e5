use Rattle.std.specs.Prelude.{◌≡◌, List, [], ◌∷◌, flat_map}
use Rattle.xbar_equip.specs.Among.{IsIn}
use Rattle.xbar_equip.specs.Crosspoint.{crosspoints}
use Rattle.xbar_equip.specs.declared.path.Path.{Path}
use Rattle.xbar_equip.specs.declared.crosspoint.Crosspoint.{Crosspoint}

-- the closed crosspoints of a set: the four of each path, in the order of paths
abbrev pub closed : List Path → List Crosspoint
closed paths = flat_map crosspoints paths

-- no two of the crosspoints are at the same field of the same word
abbrev pub NamesFieldsOnce : List Crosspoint → Type 0
NamesFieldsOnce [] = Unit {0}
NamesFieldsOnce (c ∷ others) =
    ((d : Crosspoint) → IsIn d others → c.word ≡ d.word → c.field ≡ d.field → ⊥)
    × NamesFieldsOnce others
