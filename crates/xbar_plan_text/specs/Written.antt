use Rattle.std.specs.Prelude.{ℕ, pos, Option, Some, None, List, [], ◌∷◌, ◌++◌, map, flat_map, slice_get, codes}
use Rattle.toml.specs.Data.{Data, integer, string, array, Members, no_members, member}
use Rattle.toml.specs.View.{items_of}
use Rattle.xbar_equip.specs.Digits.{digits}
use Rattle.xbar_equip.specs.Len.{line_text}
use Rattle.xbar_equip.specs.Ten.{TrunkPlace, place_text}
use Rattle.xbar_equip.specs.Link.{link_text}
use Rattle.xbar_equip.specs.DirNo.{dir_no_text}
use Rattle.xbar_plan.specs.Group.{TrunkGroup}
use Rattle.xbar_plan.specs.Tables.{Tables, Station, Route}
use Rattle.xbar_plan.specs.declared.group.GroupKind.{GroupKind}
use Rattle.xbar_plan.specs.declared.group.GroupKind.TheVariants.{Register, Intra, Outgoing}
use Rattle.xbar_plan.specs.declared.group.Member.{Member}

-- parts joined by spaces
abbrev pub spaced : List ℕ → List (List ℕ) → List ℕ
spaced first others = first ++ flat_map (λ part. 32 ∷ part) others

-- the text of a kind of group
abbrev pub kind_text : GroupKind → List ℕ
kind_text Register = codes "register"
kind_text Intra = codes "intra"
kind_text Outgoing = codes "outgoing"

-- the called side's place after a hyphen, if there is one
abbrev pub second_text : Option TrunkPlace → List ℕ
second_text None = []
second_text (Some place) = 45 ∷ place_text place

-- the text of a member
abbrev pub member_text : Member → List ℕ
member_text own = place_text own.first ++ second_text own.second

-- the text of a group
abbrev pub group_text : TrunkGroup → List ℕ
group_text group = spaced group.name (kind_text group.kind ∷ map member_text group.members)

-- the text of a directory number and its lines
abbrev pub station_text : Station → List ℕ
station_text station = spaced (dir_no_text station.number) (map line_text station.lines)

-- the name of a group, or no text if there is no group
abbrev pub name_in : Option TrunkGroup → List ℕ
name_in None = []
name_in (Some group) = group.name

-- the name of the group with this number
abbrev pub name_at : List TrunkGroup → ℕ → List ℕ
name_at groups number = name_in (slice_get groups number)

-- the text of a code and its groups' names
abbrev pub route_text : List TrunkGroup → Route → List ℕ
route_text groups route = spaced (digits 3 route.code) (map (name_at groups) route.groups)

-- an array of strings
abbrev pub array_of : List (List ℕ) → Data
array_of texts = array (items_of (map (λ text. string text) texts))

-- a plan's tables as a document in version 2
abbrev pub document_in_version_2 : Tables → Members
document_in_version_2 plan =
    member (codes "codes") (array_of (map (route_text plan.groups) plan.routes))
    (member (codes "faults") (array_of (map link_text plan.faults))
    (member (codes "groups") (array_of (map group_text plan.groups))
    (member (codes "numbers") (array_of (map station_text plan.stations))
    (member (codes "version") (integer (pos 2)) no_members))))
