use Rattle.std.proofs.Common.{◌≡◌, ℕ, ◌≤◌, Bool, true, false, List, [], ◌∷◌, length, map, refl, sym, ◌∙◌, ap, arith, Option, Some, None, position, unwrap_or}
use Rattle.std.proofs.Common.{bytes_eq, nat_le, nat_lt, ◌&&◌, if◌then◌else◌, leb-true}
use Rattle.std.{specs.List.list_all, proofs.lemmas.List.Quantifiers.position-Some}
use Rattle.xbar_plan.specs.{Group.TrunkGroup, Tables.Tables, Lawful.{fault_in, are_well_formed}, declared.fault.PlanFault.TheVariants.{Malformed, Limit}}
use Rattle.xbar_plan_text.specs.{Texts.{CodeEntry, group_number, route_of_entry, capped_number, capped_route}, Document.{Entries, tables_of_entries}}

-- a group's number is at most the number of groups
number-bound : (groups : List TrunkGroup) (name : List ℕ) → group_number groups name ≤ length groups
number-bound groups name = of (position (λ group. bytes_eq group.name name) groups) refl where
  of : (o : Option ℕ) → position (λ group. bytes_eq group.name name) groups ≡ o → unwrap_or o (length groups) ≤ length groups
  of None e = omega arith
  of (Some n) e = of_some groups n e where
    of_some : (gs : List TrunkGroup) (n : ℕ) → position (λ group. bytes_eq group.name name) gs ≡ Some n → n ≤ length gs
    of_some [] n e = cc
    of_some (g ∷ gs) n e = let within = (position-Some (λ group. bytes_eq group.name name) (g ∷ gs) n g e).0 in omega (arith, within)

same-number : (groups : List TrunkGroup) (name : List ℕ) → length groups ≤ 16 → capped_number groups name ≡ group_number groups name
same-number groups name few = let bound = number-bound groups name in omega (arith, bound, few)

same-numbers : (groups : List TrunkGroup) (names : List (List ℕ)) → length groups ≤ 16 → map (capped_number groups) names ≡ map (group_number groups) names
same-numbers groups [] few = refl
same-numbers groups (name ∷ names) few = λ i. same-number groups name few i ∷ same-numbers groups names few i

same-routes : (groups : List TrunkGroup) (entries : List CodeEntry) → length groups ≤ 16
    → map (capped_route groups) entries ≡ map (route_of_entry groups) entries
same-routes groups [] few = refl
same-routes groups (entry ∷ entries) few =
    λ i. (record { code = entry.code; groups = same-numbers groups entry.names few i }) ∷ same-routes groups entries few i

-- the tables with groups by capped numbers
abbrev pub capped_tables : Entries → Tables
capped_tables entries = record {
  groups = entries.groups;
  stations = entries.stations;
  routes = map (capped_route entries.groups) entries.codes;
  faults = entries.faults;
}

same-tables : (entries : Entries) → length entries.groups ≤ 16 → capped_tables entries ≡ tables_of_entries entries
same-tables entries few =
    λ i. record { groups = entries.groups; stations = entries.stations; routes = same-routes entries.groups entries.codes few i; faults = entries.faults }

-- with more groups both are refused, for the same fault
same-codes : (groups : List TrunkGroup) (entries : List CodeEntry)
    → list_all (λ route. nat_lt route.code 1000) (map (capped_route groups) entries)
    ≡ list_all (λ route. nat_lt route.code 1000) (map (route_of_entry groups) entries)
same-codes groups [] = refl
same-codes groups (entry ∷ entries) = ap (λ (b : Bool). nat_lt entry.code 1000 && b) (same-codes groups entries)

many : (plan : Tables) → nat_le (length plan.groups) 16 ≡ false → fault_in plan ≡ (if are_well_formed plan then Some Limit else Some Malformed)
unfolding fault_in
many plan e = rw e

pub same-fault : (entries : Entries) → fault_in (capped_tables entries) ≡ fault_in (tables_of_entries entries)
same-fault entries = of (nat_le (length entries.groups) 16) refl where
  of : (b : Bool) → nat_le (length entries.groups) 16 ≡ b → fault_in (capped_tables entries) ≡ fault_in (tables_of_entries entries)
  of true e = ap fault_in (same-tables entries (leb-true (length entries.groups) 16 e))
  of false e =
      let formed : are_well_formed (capped_tables entries) ≡ are_well_formed (tables_of_entries entries) = rw (same-codes entries.groups entries.codes) in
      many (capped_tables entries) e ∙ ap (λ (b : Bool). if b then Some Limit else Some Malformed) formed ∙ sym (many (tables_of_entries entries) e)

-- tables without a fault have few groups, so both are the same
pub same-lawful : (entries : Entries) → fault_in (capped_tables entries) ≡ None → capped_tables entries ≡ tables_of_entries entries
same-lawful entries lawful = of (nat_le (length entries.groups) 16) refl where
  never : (b : Bool) → (if b then Some Limit else Some Malformed) ≡ None → ⊥
  never true e = cc
  never false e = cc

  of : (b : Bool) → nat_le (length entries.groups) 16 ≡ b → capped_tables entries ≡ tables_of_entries entries
  of true e = same-tables entries (leb-true (length entries.groups) 16 e)
  of false e = absurd (never (are_well_formed (capped_tables entries)) (sym (many (capped_tables entries) e) ∙ lawful))
