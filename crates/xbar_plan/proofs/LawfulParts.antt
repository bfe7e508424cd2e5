use Rattle.std.proofs.Common.{◌≡◌, Bool, true, false, List, [], ◌∷◌, length, refl, ◌&&◌, nat_le, nat_lt, None}
use Rattle.{std.specs.List.list_all, xbar_equip.{specs.{Len.is_line, Ten.is_trunk_place, Link.is_link}, proofs.Logic.both}}
use Rattle.xbar_plan.specs.{Tables.Tables, Lawful.{IsLawful, fault_in, first_failed, tests, is_between, is_well_formed_group, are_in_range, are_well_formed}}
use Rattle.xbar_plan.specs.Lawful.{are_groups_within_limits, are_stations_within_limits, are_routes_within_limits, are_within_limits, are_names_distinct}
use Rattle.xbar_plan.specs.Lawful.{has_one_register_group, are_places_distinct, are_pairs_on_one_frame, are_numbers_distinct, are_codes_distinct}
use Rattle.xbar_plan.specs.{Lawful.{are_groups_known, do_routes_lead_to_trunks, all_places}, declared.fault.PlanFault.PlanFault}

-- if no test of a list fails, all pass
none_failed : (ts : List (Bool × PlanFault)) → first_failed ts ≡ None → list_all (λ t. t.0) ts ≡ true
none_failed [] e = refl
none_failed ((true, fault) ∷ ts) e = none_failed ts e
none_failed ((false, fault) ∷ ts) e = cc

-- the tests that a lawful plan passes, one by one
pub record Passes (plan : Tables) : Type 0 where
  pub formed : are_well_formed plan ≡ true
  pub limits : are_within_limits plan ≡ true
  pub names_once : are_names_distinct plan.groups ≡ true
  pub registers : has_one_register_group plan.groups ≡ true
  pub places_once : are_places_distinct plan.groups ≡ true
  pub frames : are_pairs_on_one_frame plan.groups ≡ true
  pub numbers_once : are_numbers_distinct plan.stations ≡ true
  pub codes_once : are_codes_distinct plan.routes ≡ true
  pub known : are_groups_known plan.groups plan.routes ≡ true
  pub trunks : do_routes_lead_to_trunks plan.groups plan.routes ≡ true

no_test_fails : (plan : Tables) → fault_in plan ≡ None → first_failed (tests plan) ≡ None
unfolding fault_in
no_test_fails plan e = e

pub passes : (plan : Tables) → IsLawful plan → Passes plan
passes plan lawful =
    let all = none_failed (tests plan) (no_test_fails plan lawful.none_fails) in
    let t1 = both (are_well_formed plan) _ all in
    let t2 = both (are_within_limits plan) _ t1.1 in
    let t3 = both (are_names_distinct plan.groups) _ t2.1 in
    let t4 = both (has_one_register_group plan.groups) _ t3.1 in
    let t5 = both (are_places_distinct plan.groups) _ t4.1 in
    let t6 = both (are_pairs_on_one_frame plan.groups) _ t5.1 in
    let t7 = both (are_numbers_distinct plan.stations) _ t6.1 in
    let t8 = both (are_codes_distinct plan.routes) _ t7.1 in
    let t9 = both (are_groups_known plan.groups plan.routes) _ t8.1 in
    let t10 = both (do_routes_lead_to_trunks plan.groups plan.routes) _ t9.1 in
    record {
      formed = t1.0;
      limits = t2.0;
      names_once = t3.0;
      registers = t4.0;
      places_once = t5.0;
      frames = t6.0;
      numbers_once = t7.0;
      codes_once = t8.0;
      known = t9.0;
      trunks = t10.0;
    }

-- what well-formed tables have
pub record AreFormed (plan : Tables) : Type 0 where
  pub groups : list_all is_well_formed_group plan.groups ≡ true
  pub places : list_all is_trunk_place (all_places plan.groups) ≡ true
  pub numbers : list_all (λ station. nat_lt station.number 10000) plan.stations ≡ true
  pub lines : list_all (λ station. list_all is_line station.lines) plan.stations ≡ true
  pub codes : list_all (λ route. nat_lt route.code 1000) plan.routes ≡ true
  pub faults : list_all is_link plan.faults ≡ true

pub formed : (plan : Tables) → IsLawful plan → AreFormed plan
formed plan lawful =
    let e = both (list_all is_well_formed_group plan.groups) (are_in_range plan) (passes plan lawful).formed in
    let places = list_all is_trunk_place (all_places plan.groups) in
    let numbers = list_all (λ station. nat_lt station.number 10000) plan.stations in
    let lines = list_all (λ station. list_all is_line station.lines) plan.stations in
    let codes = list_all (λ route. nat_lt route.code 1000) plan.routes in
    let e5 = both (places && numbers && lines && codes) (list_all is_link plan.faults) e.1 in
    let e4 = both (places && numbers && lines) codes e5.0 in
    let e3 = both (places && numbers) lines e4.0 in
    let e2 = both places numbers e3.0 in
    record { groups = e.0; places = e2.0; numbers = e2.1; lines = e3.1; codes = e4.1; faults = e5.1 }

-- what tables within the limits have
pub record AreWithin (plan : Tables) : Type 0 where
  pub groups : nat_le (length plan.groups) 16 ≡ true
  pub members : list_all (λ group. is_between 1 40 (length group.members)) plan.groups ≡ true
  pub few_stations : nat_le (length plan.stations) 3000 ≡ true
  pub lines : list_all (λ station. is_between 1 10 (length station.lines)) plan.stations ≡ true
  pub few_routes : nat_le (length plan.routes) 64 ≡ true
  pub routes : list_all (λ route. is_between 1 4 (length route.groups)) plan.routes ≡ true

pub within : (plan : Tables) → IsLawful plan → AreWithin plan
within plan lawful =
    let groups = are_groups_within_limits plan.groups in
    let stations = are_stations_within_limits plan.stations in
    let routes = are_routes_within_limits plan.routes in
    let e4 = both (groups && stations && routes) (nat_le (length plan.faults) 100) (passes plan lawful).limits in
    let e3 = both (groups && stations) routes e4.0 in
    let e2 = both groups stations e3.0 in
    let g = both (nat_le (length plan.groups) 16) (list_all (λ group. is_between 1 40 (length group.members)) plan.groups) e2.0 in
    let s = both (nat_le (length plan.stations) 3000) (list_all (λ station. is_between 1 10 (length station.lines)) plan.stations) e2.1 in
    let r = both (nat_le (length plan.routes) 64) (list_all (λ route. is_between 1 4 (length route.groups)) plan.routes) e3.1 in
    record { groups = g.0; members = g.1; few_stations = s.0; lines = s.1; few_routes = r.0; routes = r.1 }
