use Rattle.std.specs.Prelude.{◌==◌, Bool, false, Option, Some, None, List, find, option_and_then, if◌then◌else◌}
use Rattle.std.specs.Option.{option_map_or}
use Rattle.xbar_equip.specs.Len.{Line}
use Rattle.xbar_equip.specs.Ten.{TrunkPlace}
use Rattle.xbar_equip.specs.Paths.{has_line, has_place}
use Rattle.xbar_equip.specs.declared.path.Path.{Path}
use Rattle.xbar_plan.specs.Tables.{Tables, register_group, member_place}

-- the path of a line, if it has one
abbrev pub path_of : List Path → Line → Option Path
path_of paths line = find (has_line line) paths

-- the path that ends at a place, if there is one
abbrev pub path_at : List Path → TrunkPlace → Option Path
path_at paths place = find (has_place place) paths

-- whether the path's place is of a member of the register group
abbrev pub ends_at_register : Tables → Path → Bool
ends_at_register plan path =
    option_map_or (λ found. found.group == register_group plan) (member_place plan path.place) false

-- the path, if it ends at a register
abbrev pub if_register : Tables → Path → Option Path
if_register plan path = if ends_at_register plan path then Some path else None

-- the path from a line to its register, if it has one
abbrev pub register_path : Tables → List Path → Line → Option Path
register_path plan paths line = option_and_then (if_register plan) (path_of paths line)

-- the path of the other party: the one at the other place, if the path's place is one of a pair
abbrev pub other_path : Tables → List Path → Path → Option Path
other_path plan paths own =
    option_and_then (path_at paths)
    (option_and_then (λ found. found.other) (member_place plan own.place))
