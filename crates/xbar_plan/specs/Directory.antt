use Rattle.std.specs.Prelude.{◌≡◌, ℕ, ◌<◌, ◌==◌, Bool, if◌then◌else◌, Option, Some, None, option_map, List, length, position, slice_get, slice_index_or}
use Rattle.std.specs.Option.{option_or}
use Rattle.xbar_equip.specs.Ten.{TrunkPlace, IsTrunkPlace}
use Rattle.xbar_equip.specs.Link.{Link, IsLink}
use Rattle.xbar_plan.specs.Group.{stands_at, other_place}
use Rattle.xbar_plan.specs.Tables.{Tables, first_with, member_place, is_faulty}
use Rattle.xbar_plan.specs.Lawful.{IsLawful}
use Rattle.xbar_plan.specs.Numbered.{place_number, link_number}
use Rattle.xbar_plan.specs.declared.group.Member.{Member}
use Rattle.xbar_plan.specs.declared.group.MemberPlace.{MemberPlace}

-- four lists for look-ups, by directory number, by code, by the number of a trunk place and by
-- that of a link
pub record Directory : Type 0 where
  pub stations : List (Option ℕ)
  pub routes : List (Option ℕ)
  pub members : List (Option MemberPlace)
  pub faults : List Bool

-- the directory of these tables: for each directory number and each code, the index of the first
-- station or route with it; for each trunk place, the first member there; for each link, whether
-- it is out of order
pub record IsDirectoryOf (plan : Tables) (directory : Directory) : Type 0 where
  pub stations : (number : ℕ) → number < 10000
      → slice_get directory.stations number
      ≡ Some (position (λ station. station.number == number) plan.stations)
  pub routes : (code : ℕ) → code < 1000
      → slice_get directory.routes code ≡ Some (position (λ route. route.code == code) plan.routes)
  pub members : (place : TrunkPlace) → IsTrunkPlace place
      → slice_get directory.members (place_number place) ≡ Some (member_place plan place)
  pub faults : (link : Link) → IsLink link
      → slice_get directory.faults (link_number link) ≡ Some (is_faulty plan link)

-- the invariant of a plan: its tables are lawful, and the directory is theirs
pub record IsDirectoryInvariant (plan : Tables) (directory : Directory) : Type 0 where
  pub lawful : IsLawful plan
  pub shown : IsDirectoryOf plan directory

-- ---- building the list of members

-- the member with its other place, if the place is one of the member's
abbrev pub member_here : ℕ → ℕ → Member → TrunkPlace → Option MemberPlace
member_here number index member place =
    if stands_at member place
    then Some (record { group = number; index = index; other = other_place member place }) else None

-- the first of these members at the place, with its other place
abbrev pub first_member : ℕ → List Member → TrunkPlace → Option MemberPlace
first_member number members place =
    option_map
    (λ found. record { group = number; index = found.0; other = other_place found.1 place })
    (first_with (λ member. stands_at member place) members)

-- at each of the thousand places, `after` has the member of `before`, or that of `now` if `before`
-- has none
pub record ArePlaced (before : List (Option MemberPlace)) (now : TrunkPlace → Option MemberPlace)
    (after : List (Option MemberPlace)) : Type 0 where
  pub size : length after ≡ 1000
  pub first : (place : TrunkPlace) → IsTrunkPlace place
      → slice_index_or after (place_number place) None
      ≡ option_or (slice_index_or before (place_number place) None) (now place)
