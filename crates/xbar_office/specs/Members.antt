use Rattle.std.specs.Prelude.{ℕ, Bool, false, Option, List, [], length, slice_get}
use Rattle.std.specs.Option.{option_map_or}
use Rattle.std.specs.List.{list_all}
use Rattle.xbar_equip.specs.First.{first_below, next_below}
use Rattle.xbar_equip.specs.Paths.{has_place, is_idle}
use Rattle.xbar_equip.specs.declared.path.Path.{Path}
use Rattle.xbar_plan.specs.Group.{places}
use Rattle.xbar_plan.specs.Tables.{Tables}
use Rattle.xbar_plan.specs.declared.group.Member.{Member}

-- the members of a group
abbrev pub members_of : Tables → ℕ → List Member
members_of plan group = option_map_or (λ found. found.members) (slice_get plan.groups group) []

-- a member is idle if each of its places is
abbrev pub is_member_idle : List Path → Member → Bool
is_member_idle paths member = list_all (λ place. is_idle (has_place place) paths) (places member)

-- whether the member at this index is idle
abbrev pub is_idle_at : List Path → List Member → ℕ → Bool
is_idle_at paths members index =
    option_map_or (is_member_idle paths) (slice_get members index) false

-- the index of a group's first idle member, if any
abbrev pub first_idle : List Path → List Member → Option ℕ
first_idle paths members = first_below (is_idle_at paths members) (length members)

-- the index of the first idle member after this one, or this index itself if there is none
abbrev pub next_idle : List Path → List Member → ℕ → ℕ
next_idle paths members index = next_below (is_idle_at paths members) (length members) index
