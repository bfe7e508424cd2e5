use Rattle.std.proofs.Common.{◌≡◌, ℕ, true, List, [], ◌∷◌, length, map, refl, ◌∙◌, ap, Option, Some, Ok, option_map, option_and_then, ◌&&◌, nat_lt, IsUtf8}
use Rattle.{std.specs.List.list_all, toml.specs.{Data.{Data, Members}, Parse.parse_document}, xbar_equip.specs.{Len.is_line, Ten.is_trunk_place}}
use Rattle.{xbar_equip.{specs.Link.link_text, proofs.Logic.both}, xbar_plan.specs.{Group.TrunkGroup, Tables.{Tables, Station, Route}, Lawful.IsLawful}}
use Rattle.xbar_plan.{specs.{Lawful.{fault_in, is_well_formed_group, group_places}, declared.fault.PlanFault.PlanFault}, proofs.LawfulParts.{passes, formed}}
use Rattle.xbar_plan_text.specs.{Texts.{read_all, group_of, station_of, code_entry_of, fault_of, route_of_entry}, Document.{Four, Entries, texts_of, lists_of}}
use Rattle.xbar_plan_text.specs.Document.{entries_of, tables_of_entries, unless_faulty, plan_of_entries, plan_of_document, plan_of, version_of, version_in}
use Rattle.xbar_plan_text.specs.{Written.{array_of, group_text, station_text, route_text, document_in_version_2}, declared.read.version.Version.TheVariants.Two}
use Rattle.xbar_plan_text.proofs.{Documents.document-some, Stages.{lists_read, values_read, version_read, document_read, bytes_read}}
use Rattle.xbar_plan_text.proofs.Written.{all-read_back, all_both, all_of_flat, group-reads, station-reads, entry-reads, entry_in, route-back, link-reads}

-- the strings of an array of strings
texts-back : (texts : List (List ℕ)) → texts_of (array_of texts) ≡ Some texts
texts-back [] = refl
texts-back (text ∷ texts) = ap (λ (o : Option (List (List ℕ))). option_map {U = List (List ℕ)} (λ others. text ∷ others) o) (texts-back texts)

groups-back : (plan : Tables) → IsLawful plan → read_all group_of (map group_text plan.groups) ≡ Some plan.groups
groups-back plan lawful =
    let both_hold_of =
    all_both is_well_formed_group (λ (g : TrunkGroup). list_all is_trunk_place (group_places g)) plan.groups (formed plan lawful).groups
    (all_of_flat is_trunk_place group_places plan.groups (formed plan lawful).places) in
    all-read_back group_of group_text (λ (g : TrunkGroup). is_well_formed_group g && list_all is_trunk_place (group_places g))
    (λ group e. let h = both (is_well_formed_group group) (list_all is_trunk_place (group_places group)) e in group-reads group h.0 h.1) plan.groups
    both_hold_of

stations-back : (plan : Tables) → IsLawful plan → read_all (station_of Two) (map station_text plan.stations) ≡ Some plan.stations
stations-back plan lawful =
    let all =
    all_both (λ (s : Station). nat_lt s.number 10000) (λ (s : Station). list_all is_line s.lines) plan.stations (formed plan lawful).numbers
    (formed plan lawful).lines in
    all-read_back (station_of Two) station_text (λ (s : Station). nat_lt s.number 10000 && list_all is_line s.lines)
    (λ station e. let h = both (nat_lt station.number 10000) (list_all is_line station.lines) e in station-reads station h.0 h.1) plan.stations all

entries-back : (groups : List TrunkGroup) → list_all is_well_formed_group groups ≡ true → (routes : List Route)
    → list_all (λ route. nat_lt route.code 1000) routes ≡ true → list_all (λ route. list_all (λ group. nat_lt group (length groups)) route.groups) routes ≡ true
    → read_all code_entry_of (map (route_text groups) routes) ≡ Some (map (entry_in groups) routes)
entries-back groups well [] codes known = refl
entries-back groups well (route ∷ routes) codes known =
    let h = both (nat_lt route.code 1000) (list_all (λ (r : Route). nat_lt r.code 1000) routes) codes in
    let k =
    both (list_all (λ (g : ℕ). nat_lt g (length groups)) route.groups)
    (list_all (λ (r : Route). list_all (λ (g : ℕ). nat_lt g (length groups)) r.groups) routes) known in
    rw (entry-reads groups well route h.0 k.0, entries-back groups well routes h.1 k.1)

routes-back : (plan : Tables) → IsLawful plan → (routes : List Route)
    → list_all (λ route. list_all (λ group. nat_lt group (length plan.groups)) route.groups) routes ≡ true
    → map (route_of_entry plan.groups) (map (entry_in plan.groups) routes) ≡ routes
routes-back plan lawful [] known = refl
routes-back plan lawful (route ∷ routes) known =
    let k =
    both (list_all (λ (g : ℕ). nat_lt g (length plan.groups)) route.groups)
    (list_all (λ (r : Route). list_all (λ (g : ℕ). nat_lt g (length plan.groups)) r.groups) routes) known in
    λ i. route-back plan.groups (passes plan lawful).names_once route k.0 i ∷ routes-back plan lawful routes k.1 i

abbrev entries_in : Tables → Entries
entries_in plan = record { groups = plan.groups; stations = plan.stations; codes = map (entry_in plan.groups) plan.routes; faults = plan.faults }

abbrev lists_in : Tables → Four (List (List ℕ))
lists_in plan = record {
  groups = map group_text plan.groups;
  numbers = map station_text plan.stations;
  codes = map (route_text plan.groups) plan.routes;
  faults = map link_text plan.faults;
}

abbrev values_in : Tables → Four Data
values_in plan = record {
  groups = array_of (map group_text plan.groups);
  numbers = array_of (map station_text plan.stations);
  codes = array_of (map (route_text plan.groups) plan.routes);
  faults = array_of (map link_text plan.faults);
}

lists-back : (plan : Tables) → lists_of (values_in plan) ≡ Some (lists_in plan)
lists-back plan =
    rw (
      texts-back (map group_text plan.groups),
      texts-back (map station_text plan.stations),
      texts-back (map (route_text plan.groups) plan.routes),
      texts-back (map link_text plan.faults),
    )

items-back : (plan : Tables) → IsLawful plan → entries_of Two (lists_in plan) ≡ Some (entries_in plan)
items-back plan lawful =
    rw (
      groups-back plan lawful,
      stations-back plan lawful,
      entries-back plan.groups (formed plan lawful).groups plan.routes (formed plan lawful).codes (passes plan lawful).known,
      all-read_back fault_of link_text _ link-reads plan.faults (formed plan lawful).faults,
    )

tables-back : (plan : Tables) → IsLawful plan → tables_of_entries (entries_in plan) ≡ plan
tables-back plan lawful =
    λ i.
    record { groups = plan.groups; stations = plan.stations; routes = routes-back plan lawful plan.routes (passes plan lawful).known i; faults = plan.faults }

last-back : (plan : Tables) → IsLawful plan → plan_of_entries (entries_in plan) ≡ Ok plan
unfolding plan_of_entries
last-back plan lawful =
    ap (λ (tables : Tables). unless_faulty (fault_in tables) tables) (tables-back plan lawful)
    ∙ ap (λ (o : Option PlanFault). unless_faulty o plan) lawful.none_fails

-- a plan's document in version 2 gives its tables
pub document-back : (plan : Tables) → IsLawful plan → plan_of_document (document_in_version_2 plan) ≡ Ok plan
document-back plan lawful =
    document_read (document_in_version_2 plan) Two refl ∙ version_read (document_in_version_2 plan) Two (values_in plan) refl
    ∙ values_read Two (values_in plan) (lists_in plan) (lists-back plan) ∙ lists_read Two (lists_in plan) (entries_in plan) (items-back plan lawful)
    ∙ last-back plan lawful

-- so do bytes that parse to it
pub bytes-back : (bytes : List ℕ) (plan : Tables) → IsLawful plan → IsUtf8 bytes → parse_document bytes ≡ Some (document_in_version_2 plan)
    → plan_of bytes ≡ Ok plan
bytes-back bytes plan lawful text parsed =
    bytes_read bytes (document_in_version_2 plan) (document-some bytes (document_in_version_2 plan) text parsed) ∙ document-back plan lawful

-- and they are a document in version 2
pub version-back : (bytes : List ℕ) (plan : Tables) → IsUtf8 bytes → parse_document bytes ≡ Some (document_in_version_2 plan) → version_in bytes ≡ Some Two
version-back bytes plan text parsed =
    ap (λ (o : Option Members). option_and_then version_of o) (document-some bytes (document_in_version_2 plan) text parsed)
