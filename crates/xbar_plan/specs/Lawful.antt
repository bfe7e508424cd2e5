use Rattle.std.specs.Prelude.{◌≡◌, ◌⊎◌, Result, MatchResult, ℕ, ◌&&◌, ◌||◌, ◌==◌, not, nat_lt, nat_le, nat_eq, Bool, true, false, if◌then◌else◌, Option, Some, None, List, [], ◌∷◌, length, map, flat_map, count_by, slice_get, bytes_eq, is_some}
use Rattle.std.specs.Option.{option_map_or}
use Rattle.std.specs.Bool.{beq}
use Rattle.std.specs.List.{list_any, list_all}
use Rattle.std.specs.Char.{is_ascii_digit, is_ascii_uppercase}
use Rattle.xbar_equip.specs.Len.{is_line}
use Rattle.xbar_equip.specs.Ten.{TrunkPlace, is_trunk_place, place_eq}
use Rattle.xbar_equip.specs.Link.{is_link}
use Rattle.xbar_plan.specs.Group.{TrunkGroup, places, is_register, is_intra, is_outgoing}
use Rattle.xbar_plan.specs.Tables.{Tables, Station, Route}
use Rattle.xbar_plan.specs.declared.fault.PlanFault.{PlanFault}
use Rattle.xbar_plan.specs.declared.fault.PlanFault.TheVariants.{Malformed, Limit, GroupTwice, RegisterGroups, PlaceTwice, PairApart, NumberTwice, CodeTwice, UnknownGroup, MixedRoute, Memory}
use Rattle.xbar_plan.specs.declared.group.Member.{Member}

-- whether n is from `least` to `most`, both included
abbrev pub is_between : ℕ → ℕ → ℕ → Bool
is_between least most n = nat_le least n && nat_le n most

-- whether no two items of the list are the same
abbrev pub are_distinct : {A : Type 0} → (A → A → Bool) → List A → Bool
are_distinct same [] = true
are_distinct same (x ∷ xs) = not (list_any (λ other. same other x) xs) && are_distinct same xs

-- whether a character is a letter A to Z or a digit
abbrev pub is_name_character : ℕ → Bool
is_name_character character = is_ascii_uppercase character || is_ascii_digit character

-- a group's name: 1 to 8 characters of A to Z and 0 to 9
abbrev pub is_name : List ℕ → Bool
is_name name = is_between 1 8 (length name) && list_all is_name_character name

-- each member of an intra group has two places, each member of another group has one
abbrev pub has_its_places : TrunkGroup → Bool
has_its_places group =
    list_all (λ member. beq (is_some member.second) (is_intra group)) group.members

-- the member's second place, if there is one, is on the same trunk link frame as the first
abbrev pub is_on_one_frame : Member → Bool
is_on_one_frame member =
    option_map_or (λ second. second.frame == member.first.frame) member.second true

-- the places of all members of a group
abbrev pub group_places : TrunkGroup → List TrunkPlace
group_places group = flat_map places group.members

-- the places of all members of all groups
abbrev pub all_places : List TrunkGroup → List TrunkPlace
all_places groups = flat_map group_places groups

-- the group has a valid name, and its members have the places of its kind
abbrev pub is_well_formed_group : TrunkGroup → Bool
is_well_formed_group group = is_name group.name && has_its_places group

-- all places, directory numbers, lines, codes and links are in range
abbrev pub are_in_range : Tables → Bool
are_in_range plan =
    list_all is_trunk_place (all_places plan.groups)
    && list_all (λ station. nat_lt station.number 10000) plan.stations
    && list_all (λ station. list_all is_line station.lines) plan.stations
    && list_all (λ route. nat_lt route.code 1000) plan.routes
    && list_all is_link plan.faults

-- the tables contain nothing that a text could not express
abbrev pub are_well_formed : Tables → Bool
are_well_formed plan = list_all is_well_formed_group plan.groups && are_in_range plan

-- there are at most 16 groups, with 1 to 40 members each
abbrev pub are_groups_within_limits : List TrunkGroup → Bool
are_groups_within_limits groups =
    nat_le (length groups) 16 && list_all (λ group. is_between 1 40 (length group.members)) groups

-- there are at most 3000 directory numbers, with 1 to 10 lines each
abbrev pub are_stations_within_limits : List Station → Bool
are_stations_within_limits stations =
    nat_le (length stations) 3000
    && list_all (λ station. is_between 1 10 (length station.lines)) stations

-- there are at most 64 codes, which lead to 1 to 4 groups each
abbrev pub are_routes_within_limits : List Route → Bool
are_routes_within_limits routes =
    nat_le (length routes) 64 && list_all (λ route. is_between 1 4 (length route.groups)) routes

-- all three limits hold, and at most 100 links are out of order
abbrev pub are_within_limits : Tables → Bool
are_within_limits plan =
    are_groups_within_limits plan.groups && are_stations_within_limits plan.stations
    && are_routes_within_limits plan.routes && nat_le (length plan.faults) 100

-- no two groups have the same name
abbrev pub are_names_distinct : List TrunkGroup → Bool
are_names_distinct groups = are_distinct bytes_eq (map (λ group. group.name) groups)

-- there is exactly one group of registers
abbrev pub has_one_register_group : List TrunkGroup → Bool
has_one_register_group groups = count_by is_register groups == 1

-- no trunk place occurs twice: in one group or in two, in one pair or in two
abbrev pub are_places_distinct : List TrunkGroup → Bool
are_places_distinct groups = are_distinct place_eq (all_places groups)

-- both places of each pair are on one trunk link frame
abbrev pub are_pairs_on_one_frame : List TrunkGroup → Bool
are_pairs_on_one_frame groups = list_all (λ group. list_all is_on_one_frame group.members) groups

-- no directory number occurs twice
abbrev pub are_numbers_distinct : List Station → Bool
are_numbers_distinct stations = are_distinct nat_eq (map (λ station. station.number) stations)

-- no code occurs twice
abbrev pub are_codes_distinct : List Route → Bool
are_codes_distinct routes = are_distinct nat_eq (map (λ route. route.code) routes)

-- each code leads to groups that exist
abbrev pub are_groups_known : List TrunkGroup → List Route → Bool
are_groups_known groups routes =
    list_all (λ route. list_all (λ group. nat_lt group (length groups)) route.groups) routes

-- whether the group with this number exists and passes the test
abbrev pub is_group : (TrunkGroup → Bool) → List TrunkGroup → ℕ → Bool
is_group test groups number = option_map_or test (slice_get groups number) false

-- the groups of the route are all intra or all outgoing
abbrev pub leads_to_trunks : List TrunkGroup → Route → Bool
leads_to_trunks groups route =
    list_all (is_group is_intra groups) route.groups
    || list_all (is_group is_outgoing groups) route.groups

-- each of these numbers is that of a group that passes the test
abbrev pub LeadsOnlyTo : (TrunkGroup → Bool) → Tables → List ℕ → Type 0
LeadsOnlyTo test plan groups =
    (k number : ℕ) → slice_get groups k ≡ Some number → (group : TrunkGroup)
    × (slice_get plan.groups number ≡ Some group) × (test group ≡ true)

-- the groups of each route are all intra or all outgoing
abbrev pub do_routes_lead_to_trunks : List TrunkGroup → List Route → Bool
do_routes_lead_to_trunks groups routes = list_all (leads_to_trunks groups) routes

-- the tests of tables, each with the fault of tables that fail it, in the order of the faults'
-- numbers
abbrev pub tests : Tables → List (Bool × PlanFault)
tests plan =
    (are_well_formed plan, Malformed) ∷
    (are_within_limits plan, Limit) ∷
    (are_names_distinct plan.groups, GroupTwice) ∷
    (has_one_register_group plan.groups, RegisterGroups) ∷
    (are_places_distinct plan.groups, PlaceTwice) ∷
    (are_pairs_on_one_frame plan.groups, PairApart) ∷
    (are_numbers_distinct plan.stations, NumberTwice) ∷
    (are_codes_distinct plan.routes, CodeTwice) ∷
    (are_groups_known plan.groups plan.routes, UnknownGroup) ∷
    (do_routes_lead_to_trunks plan.groups plan.routes, MixedRoute) ∷ []

-- the fault of the first test that fails, if any
abbrev pub first_failed : List (Bool × PlanFault) → Option PlanFault
first_failed [] = None
first_failed (test ∷ others) = if test.0 then first_failed others else Some test.1

-- the first fault of the tables, if they have one
unfoldable pub fault_in : Tables → Option PlanFault
fault_in plan = first_failed (tests plan)

-- the tables are lawful: they fail no test
pub record IsLawful (plan : Tables) : Type 0 where
  pub none_fails : fault_in plan ≡ None

-- the result of making a plan: the tables, which are lawful, or their first fault, or that memory
-- ran out
abbrev pub IsPlanOf : Tables → Result Tables PlanFault → Type 0
IsPlanOf plan result =
    MatchResult result (λ made. (fault_in plan ≡ None) × (made ≡ plan))
    (λ fault. (fault ≡ Memory) ⊎ (fault_in plan ≡ Some fault))
