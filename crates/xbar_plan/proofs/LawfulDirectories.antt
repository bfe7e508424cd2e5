use Rattle.std.proofs.Common.{◌≡◌, ℕ, ◌<◌, ◌≤◌, List, [], length, get_or, map, refl, sym, ◌∙◌, ap, arith, Option, Some, None, slice_get, find, position}
use Rattle.std.proofs.Common.{option_map, nat_lt, ◌==◌, leb-true, ltb-true, eqb-true}
use Rattle.{std.proofs.lemmas.{List.Quantifiers.position-Some, Option.{same_Some, slice_get-get_or}}, xbar_equip.proofs.Lists.{each_passes, found_passes}}
use Rattle.xbar_plan.specs.{Tables.{Tables, Station, Route, lines_of, route_of}, Lawful.IsLawful, Directory.{Directory, IsDirectoryOf}}
use Rattle.xbar_plan.proofs.{LawfulParts.{formed, within}, FirstPlaces.{find-at_position, find-none, position-map}}

-- lawful tables have at most 3000 stations and 64 routes, so an index fits in sixteen bits
pub few-stations : (plan : Tables) → IsLawful plan → length plan.stations ≤ 3000
few-stations plan lawful = leb-true (length plan.stations) 3000 (within plan lawful).few_stations

pub few-routes : (plan : Tables) → IsLawful plan → length plan.routes ≤ 64
few-routes plan lawful = leb-true (length plan.routes) 64 (within plan lawful).few_routes

-- a table of first indexes has, for each number, the index of the first item with it
pub first-items : {X : Type 0} (f : X → ℕ) (items : List X) (numbers : List ℕ) (count : ℕ) (table : List (Option ℕ)) → numbers ≡ map f items
    → length table ≡ count → ((k : ℕ) → k < count → get_or table k None ≡ position (λ n. n == k) numbers) → (k : ℕ) → k < count
    → slice_get table k ≡ Some (position (λ x. f x == k) items)
first-items f items numbers count table is size first k below =
    let there : k < length table = omega (arith, size, below) in
    slice_get-get_or table k None there
    ∙ ap (λ (o : Option ℕ). Some o) (first k below ∙ ap (position (λ n. n == k)) is ∙ position-map (λ n. n == k) f items)

-- ---- look-ups in a directory of tables

module _ (plan : Tables) (directory : Directory) (is : IsDirectoryOf plan directory) where
  -- the first station of a number
  station-first : (number : ℕ) (found : Option ℕ) → number < 10000 → slice_get directory.stations number ≡ Some found
      → position (λ (station : Station). station.number == number) plan.stations ≡ found
  station-first number found below e = same_Some _ found (sym (is.stations number below) ∙ e)

  pub station-within : (number place : ℕ) → number < 10000 → slice_get directory.stations number ≡ Some (Some place) → place < length plan.stations
  station-within number place below e =
      (position-Some (λ (station : Station). station.number == number) plan.stations place (record { number = 0; lines = [] })
      (station-first number (Some place) below e)).0

  pub lines-at : (number place : ℕ) (station : Station) → number < 10000 → slice_get directory.stations number ≡ Some (Some place)
      → slice_get plan.stations place ≡ Some station → lines_of plan number ≡ Some station.lines
  lines-at number place station below e here =
      ap (option_map (λ (s : Station). s.lines))
      (find-at_position (λ (s : Station). s.number == number) plan.stations place (station-first number (Some place) below e) ∙ here)

  pub lines-none : (number : ℕ) → number < 10000 → slice_get directory.stations number ≡ Some None → lines_of plan number ≡ None
  lines-none number below e =
      ap (option_map (λ (s : Station). s.lines)) (find-none (λ (s : Station). s.number == number) plan.stations (station-first number None below e))

  -- the first route of a code
  route-first : (code : ℕ) (found : Option ℕ) → code < 1000 → slice_get directory.routes code ≡ Some found
      → position (λ (route : Route). route.code == code) plan.routes ≡ found
  route-first code found below e = same_Some _ found (sym (is.routes code below) ∙ e)

  pub route-within : (code place : ℕ) → code < 1000 → slice_get directory.routes code ≡ Some (Some place) → place < length plan.routes
  route-within code place below e =
      (position-Some (λ (route : Route). route.code == code) plan.routes place (record { code = 0; groups = [] }) (route-first code (Some place) below e)).0

  pub groups-at : (code place : ℕ) (route : Route) → code < 1000 → slice_get directory.routes code ≡ Some (Some place)
      → slice_get plan.routes place ≡ Some route → route_of plan code ≡ Some route.groups
  groups-at code place route below e here =
      ap (option_map (λ (r : Route). r.groups))
      (find-at_position (λ (r : Route). r.code == code) plan.routes place (route-first code (Some place) below e) ∙ here)

  pub groups-none : (code : ℕ) → code < 1000 → slice_get directory.routes code ≡ Some None → route_of plan code ≡ None
  groups-none code below e =
      ap (option_map (λ (r : Route). r.groups)) (find-none (λ (r : Route). r.code == code) plan.routes (route-first code None below e))

-- no code of a lawful plan has four digits
pub groups-past : (plan : Tables) → IsLawful plan → (code : ℕ) → 1000 ≤ code → route_of plan code ≡ None
groups-past plan lawful code past = of (find (λ (r : Route). r.code == code) plan.routes) refl where
  of : (o : Option Route) → find (λ (r : Route). r.code == code) plan.routes ≡ o → option_map (λ (r : Route). r.groups) o ≡ None
  of None e = refl
  of (Some route) e =
      let found = found_passes (λ (r : Route). r.code == code) plan.routes route e in
      let below = ltb-true route.code 1000 (each_passes (λ (r : Route). nat_lt r.code 1000) plan.routes route (formed plan lawful).codes found.0) in
      let same = eqb-true route.code code found.1 in
      absurd (omega (arith, below, same, past))
