-- A plan's tables as JSON.
use Rattle.std.specs.Prelude.{ℕ, Option, None, Some, List, [], ◌∷◌, codes, decimal, map}
use Rattle.std.specs.List.{concat}
use Rattle.xbar_equip.specs.Digits.{digits}
use Rattle.xbar_equip.specs.DirNo.{dir_no_text}
use Rattle.xbar_equip.specs.Len.{line_text}
use Rattle.xbar_equip.specs.Link.{link_text}
use Rattle.xbar_equip.specs.Ten.{TrunkPlace, place_text}
use Rattle.xbar_plan.specs.Group.{TrunkGroup}
use Rattle.xbar_plan.specs.Tables.{Route, Station, Tables}
use Rattle.xbar_plan.specs.declared.group.GroupKind.{GroupKind}
use Rattle.xbar_plan.specs.declared.group.GroupKind.TheVariants.{Register, Intra, Outgoing}
use Rattle.xbar_plan.specs.declared.group.Member.{Member}
use Rattle.xbar_json.specs.Json.{array, quoted}

-- the name of a group's kind
abbrev pub group_kind_name : GroupKind → List ℕ
group_kind_name Register = codes "register"
group_kind_name Intra = codes "intra"
group_kind_name Outgoing = codes "outgoing"

-- the called side's place after a comma, if there is one
abbrev pub second_value : Option TrunkPlace → List ℕ
second_value None = []
second_value (Some place) = concat (codes "," ∷ quoted (place_text place) ∷ [])

-- the places of a member, the calling side's first: ["417"], or ["600","601"]
unfoldable pub member_array : Member → List ℕ
member_array member =
    concat (codes "[" ∷ quoted (place_text member.first) ∷ second_value member.second ∷ codes "]"
    ∷ [])

-- a group: {"name":"REG","kind":"register","members":[["417"],["418"],["509"]]}
unfoldable pub group_object : TrunkGroup → List ℕ
group_object group =
    concat (codes "{\"name\":\"" ∷ group.name ∷ codes "\",\"kind\":\"" ∷ group_kind_name group.kind
    ∷ codes "\",\"members\":" ∷ array (map member_array group.members) ∷ codes "}" ∷ [])

-- a directory number with its lines: {"number":"0002","lines":["3052","3100"]}
unfoldable pub station_object : Station → List ℕ
station_object station =
    concat (codes "{\"number\":\"" ∷ dir_no_text station.number ∷ codes "\",\"lines\":"
    ∷ array (map (λ line. quoted (line_text line)) station.lines) ∷ codes "}" ∷ [])

-- a code with the numbers of its groups: {"code":"555","groups":[2,3]}
unfoldable pub route_object : Route → List ℕ
route_object route =
    concat (codes "{\"code\":\"" ∷ digits 3 route.code ∷ codes "\",\"groups\":"
    ∷ array (map decimal route.groups) ∷ codes "}" ∷ [])

-- a plan: its groups, directory numbers, codes and faulty links, each in the plan's order
unfoldable pub plan_object : Tables → List ℕ
plan_object plan =
    concat (codes "{\"groups\":" ∷ array (map group_object plan.groups) ∷ codes ",\"numbers\":"
    ∷ array (map station_object plan.stations) ∷ codes ",\"codes\":"
    ∷ array (map route_object plan.routes) ∷ codes ",\"faults\":"
    ∷ array (map (λ link. quoted (link_text link)) plan.faults) ∷ codes "}" ∷ [])
