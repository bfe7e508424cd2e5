use Rattle.std.specs.Prelude.{◌≡◌, ℕ, ◌==◌, Bool, true, false, Option, Some, MatchOption, IfSome, IsSomeAnd, List, find, position, unwrap_or, option_map, option_and_then, slice_get, ◌<◌, length}
use Rattle.std.specs.List.{list_any}
use Rattle.xbar_equip.specs.Len.{Line}
use Rattle.xbar_equip.specs.Ten.{TrunkPlace}
use Rattle.xbar_equip.specs.Link.{Link, link_eq}
use Rattle.xbar_plan.specs.Group.{TrunkGroup, is_register, stands_at, other_place}
use Rattle.xbar_plan.specs.declared.group.Member.{Member}
use Rattle.xbar_plan.specs.declared.group.MemberPlace.{MemberPlace}

-- a directory number and its lines, in the order in which they are hunted
pub record Station : Type 0 where
  pub number : ℕ
  pub lines : List Line

-- a code and the groups that it leads to, by number, in the order in which they are tried
pub record Route : Type 0 where
  pub code : ℕ
  pub groups : List ℕ

-- the tables of a plan: trunk groups, directory numbers, routes, and the links that are out of
-- order
pub record Tables : Type 0 where
  pub groups : List TrunkGroup
  pub stations : List Station
  pub routes : List Route
  pub faults : List Link

-- the lines of a directory number, if it is in use
abbrev pub lines_of : Tables → ℕ → Option (List Line)
lines_of plan number =
    option_map (λ station. station.lines) (find (λ station. station.number == number) plan.stations)

-- the groups of a code, if it is in use
abbrev pub route_of : Tables → ℕ → Option (List ℕ)
route_of plan code =
    option_map (λ route. route.groups) (find (λ route. route.code == code) plan.routes)

-- the plan has each of these groups
abbrev pub AreGroups : Tables → List ℕ → Type 0
AreGroups plan groups = (k group : ℕ) → slice_get groups k ≡ Some group → group < length plan.groups

-- the first item that passes a test, with its index, counted from 0
abbrev pub first_with : {A : Type 0} → (A → Bool) → List A → Option (ℕ × A)
first_with test items =
    option_and_then (λ number. option_map (λ item. (number, item)) (slice_get items number))
    (position test items)

-- the number of the first register group, or 0 if there is none
abbrev pub register_group : Tables → ℕ
register_group plan = unwrap_or (position is_register plan.groups) 0

-- whether a link is listed as out of order
abbrev pub is_faulty : Tables → Link → Bool
is_faulty plan link = list_any (λ fault. link_eq fault link) plan.faults

-- member `index` of group `group`, both counted from 0, if there is one
abbrev pub member_at : Tables → ℕ → ℕ → Option Member
member_at plan group index =
    option_and_then (λ found. slice_get found.members index) (slice_get plan.groups group)

-- whether a member of the group is at the place
abbrev pub has_member_at : TrunkPlace → TrunkGroup → Bool
has_member_at place group = list_any (λ member. stands_at member place) group.members

-- the first member of group `number` at the place, with its other place
abbrev pub member_within : ℕ → TrunkGroup → TrunkPlace → Option MemberPlace
member_within number group place =
    option_map
    (λ found. record { group = number; index = found.0; other = other_place found.1 place })
    (first_with (λ member. stands_at member place) group.members)

-- the first member at the place, of the first group that has one there
abbrev pub member_place : Tables → TrunkPlace → Option MemberPlace
member_place plan place =
    option_and_then (λ found. member_within found.0 found.1 place)
    (first_with (has_member_at place) plan.groups)

-- no member of any group is at the place
abbrev pub IsNoMembers : Tables → TrunkPlace → Type 0
IsNoMembers plan place =
    (group index : ℕ) → IfSome (member_at plan group index)
    (λ member. stands_at member place ≡ false)

-- `found` names a member that is at the place, and the member's other place
abbrev pub IsOfMember : Tables → TrunkPlace → MemberPlace → Type 0
IsOfMember plan place found =
    IsSomeAnd (member_at plan found.group found.index)
    (λ member. (stands_at member place ≡ true) × (found.other ≡ other_place member place))

-- `found` names a member at the place, with its other place, or is None, and then no member is
-- there
abbrev pub IsMemberPlace : Tables → TrunkPlace → Option MemberPlace → Type 0
IsMemberPlace plan place found =
    MatchOption found (IsNoMembers plan place) (λ member. IsOfMember plan place member)
