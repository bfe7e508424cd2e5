use Rattle.std.specs.Prelude.{◌≡◌, ℕ, ◌<◌, length, slice_get, Bool, Option, Some, None, List, [], ◌∷◌, ◌&&◌, not, find}
use Rattle.std.specs.List.{list_all}
use Rattle.xbar_equip.specs.Len.{Line, line_eq}
use Rattle.xbar_equip.specs.Paths.{has_line, is_idle}
use Rattle.xbar_equip.specs.declared.path.Path.{Path}
use Rattle.xbar_plan.specs.Group.{is_intra}
use Rattle.xbar_plan.specs.Lawful.{is_group}
use Rattle.xbar_plan.specs.Tables.{Tables}
use Rattle.xbar_office.specs.Members.{members_of, first_idle}
use Rattle.xbar_office.specs.declared.route.IdleTrunk.{IdleTrunk}

-- whether all these groups of a code are intra groups
abbrev pub leads_inside : Tables → List ℕ → Bool
leads_inside plan groups = list_all (is_group is_intra plan.groups) groups

-- the first line of a number that is idle and is not the calling line
abbrev pub called_line : List Path → Line → List Line → Option Line
called_line paths calling lines =
    find (λ line. not (line_eq line calling) && is_idle (has_line line) paths) lines

-- a group's first idle member, or what the next groups have if there is none
abbrev pub trunk_or : ℕ → Option ℕ → Option IdleTrunk → Option IdleTrunk
trunk_or group None next = next
trunk_or group (Some first) next = Some (record { group = group; first = first })

-- the first group that has an idle member, and its first one
abbrev pub idle_trunk : Tables → List Path → List ℕ → Option IdleTrunk
idle_trunk plan paths [] = None
idle_trunk plan paths (group ∷ groups) =
    trunk_or group (first_idle paths (members_of plan group)) (idle_trunk plan paths groups)
