use Rattle.std.specs.Prelude.{ℕ, List, [], ◌∷◌, ◌++◌, codes, decimal, if◌then◌else◌, option_and_then, slice_get}
use Rattle.std.specs.List.{concat}
use Rattle.std.specs.Option.{option_map_or}
use Rattle.xbar_equip.specs.Ten.{TrunkPlace, place_text}
use Rattle.xbar_equip.specs.declared.path.Path.{Path}
use Rattle.xbar_plan.specs.Tables.{Tables, member_place}
use Rattle.xbar_plan.specs.declared.group.MemberPlace.{MemberPlace}
use Rattle.xbar_office.specs.Standing.{ends_at_register}

-- the name of a group; empty if the plan has no group with this number
abbrev pub group_name : Tables → ℕ → List ℕ
group_name plan group = option_map_or (λ found. found.name) (slice_get plan.groups group) []

-- a member of a group: the group's name, and which member it is, counted from 0
abbrev pub member_name : Tables → MemberPlace → List ℕ
member_name plan member =
    concat (group_name plan member.group ∷ codes " " ∷ decimal member.index ∷ [])

-- the member at the place where a path ends, or that there is none
unfoldable pub member_text : Tables → Path → List ℕ
member_text plan path =
    option_map_or (member_name plan) (member_place plan path.place) (codes "no member")

-- a member's other place, where the other party's path ends
abbrev pub with_place : TrunkPlace → List ℕ
with_place place = codes ", with " ++ place_text place

-- the other place of the member where a path ends, if that member has two
unfoldable pub other_text : Tables → Path → List ℕ
other_text plan path =
    option_map_or with_place
    (option_and_then (λ member. member.other) (member_place plan path.place)) []

-- whose a path is, a register's or a call's, and the member where it ends
unfoldable pub use_text : Tables → Path → List ℕ
use_text plan path =
    concat ((if ends_at_register plan path then codes "register's path: " else codes "call: ")
    ∷ member_text plan path ∷ other_text plan path ∷ [])

-- what a path leads to: a register or the trunk of a call, with its member
unfoldable pub end_text : Tables → Path → List ℕ
end_text plan path =
    (if ends_at_register plan path then codes "register " else codes "trunk ")
    ++ member_text plan path
