use Rattle.std.proofs.Common.{◌<◌, ◌≡◌, List, ℕ, map, take, get_or, length, inr, refl, sym, ◌∙◌, ap, Some, None, bytes_eq, position, arith}
use Rattle.{std.proofs.lemmas.List.{take-map, length-map, get_or-map}, xbar_plan.specs.Group.TrunkGroup}
use Rattle.xbar_plan.proofs.{FirstPlaces.position-map, Repeats.{bytes_eq-is, bytes_eq-itself, bytes_eq-turned, repeats, seen, no_position, apart_more, twice}}
use Rattle.xbar_plan.proofs.lawful.groups.check_names.Goals as goal

abbrev names : List TrunkGroup → List (List ℕ)
names groups = map (λ group. group.name) groups

-- a search by name for the first of some groups
searched : (groups : List TrunkGroup) (item : ℕ) (name : List ℕ)
    → position (λ n. bytes_eq n name) (take item (names groups)) ≡ position (λ group. bytes_eq group.name name) (take item groups)
searched groups item name =
    ap (position (λ n. bytes_eq n name)) (take-map (λ (group : TrunkGroup). group.name) item groups)
    ∙ position-map (λ n. bytes_eq n name) (λ (group : TrunkGroup). group.name) (take item groups)

name_at : (groups : List TrunkGroup) (item : ℕ) (group : TrunkGroup) → item < length groups → group ≡ get_or groups item group
    → (item < length (names groups)) × (group.name ≡ get_or (names groups) item group.name)
name_at groups item group within here =
    let count = length-map groups (λ (g : TrunkGroup). g.name) in
    (omega (arith, count, within), ap (λ (g : TrunkGroup). g.name) here ∙ sym (get_or-map (λ (g : TrunkGroup). g.name) groups item group group.name within))

pub returns-in-Some : goal.returns-in-Some
returns-in-Some c =
    let at = name_at c.args.tables.now.groups.now c.loop-item.item c.index-groups-item.result c.loop-item-test.true c.index-groups-item.is in
    let first : position (λ group. bytes_eq group.name c.name.result.now) (take c.loop-item.item c.args.tables.now.groups.now) ≡ Some c.in-Some.earlier =
    sym c.first_with_name.ensures ∙ c.in-Some.is in
    let found = searched c.args.tables.now.groups.now c.loop-item.item c.index-groups-item.result.name ∙ rw c.name.ensures at first in
    let again =
    repeats bytes_eq bytes_eq-is (names c.args.tables.now.groups.now) c.loop-item.item c.in-Some.earlier c.index-groups-item.result.name at.0 at.1 found in
    let some =
    seen bytes_eq bytes_eq-is (names c.args.tables.now.groups.now) c.loop-item.item c.in-Some.earlier c.index-groups-item.result.name at.0 at.1 found in
    let twice_there =
    twice bytes_eq bytes_eq-itself bytes_eq-turned (names c.args.tables.now.groups.now) c.loop-item.item _ c.index-groups-item.result.name at.0 at.1 some in
    (again, inr (twice_there, refl))

pub loop-item-preserved : goal.loop-item-preserved
loop-item-preserved c =
    let at = name_at c.args.tables.now.groups.now c.loop-item.item c.index-groups-item.result c.loop-item-test.true c.index-groups-item.is in
    let first : position (λ group. bytes_eq group.name c.name.result.now) (take c.loop-item.item c.args.tables.now.groups.now) ≡ None =
    sym c.first_with_name.ensures ∙ c.in_default.is in
    let none = searched c.args.tables.now.groups.now c.loop-item.item c.index-groups-item.result.name ∙ rw c.name.ensures at first in
    let new = no_position (λ n. bytes_eq n c.index-groups-item.result.name) (take c.loop-item.item (names c.args.tables.now.groups.now)) none in
    apart_more bytes_eq bytes_eq-itself bytes_eq-turned (names c.args.tables.now.groups.now) c.loop-item.item _ c.index-groups-item.result.name at.0 at.1
    c.loop-item.invariant new
