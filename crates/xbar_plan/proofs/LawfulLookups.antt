use Rattle.std.proofs.Common.{◌≡◌, ℕ, ◌<◌, ◌≤◌, Bool, true, false, ◌⊎◌, List, length, inl, inr, refl, sym, ◌∙◌, ap, subst, arith, Option, Some, None, IsSomeAnd}
use Rattle.std.proofs.Common.{IfSome, slice_get, ◌==◌, nat_lt, ltb-true, eqb-true}
use Rattle.{std.specs.{Option.option_map_or, List.list_all}, xbar_equip.specs.{Len.{Line, IsLine, is_line}, Ten.TrunkPlace}}
use Rattle.xbar_equip.{specs.Link.{Link, IsLink, is_link, link_eq}, proofs.{PathTests.link_eq-exact, Ranges.{line_in_range, link_in_range}, Logic.either}}
use Rattle.{xbar_equip.proofs.Lists.{each_passes, any_is_in}, xbar_plan.specs.Group.{TrunkGroup, stands_at, is_register, is_intra, is_outgoing, other_place}}
use Rattle.xbar_plan.specs.Tables.{Tables, Station, Route, member_at, register_group, lines_of, route_of, is_faulty, IsNoMembers, IsOfMember, IsMemberPlace}
use Rattle.xbar_plan.specs.{Lawful.{IsLawful, LeadsOnlyTo, is_between, is_group, leads_to_trunks}, declared.group.{Member.Member, MemberPlace.MemberPlace}}
use Rattle.xbar_plan.proofs.{Ranges.between, Distinct.item_passes, Lookups.{found-item, count-one, position-one}, LawfulPlans.{stands_at-has, one_member}}
use Rattle.xbar_plan.proofs.LawfulParts.{passes, formed, within}

-- the register group exists, and has registers
pub register_group-is : (plan : Tables) → IsLawful plan
    → (group : TrunkGroup) × (slice_get plan.groups (register_group plan) ≡ Some group) × (is_register group ≡ true)
register_group-is plan lawful = position-one is_register plan.groups (eqb-true _ 1 (passes plan lawful).registers)

-- no other group has registers
pub register_group-only : (plan : Tables) → IsLawful plan → (number : ℕ) (group : TrunkGroup) → slice_get plan.groups number ≡ Some group
    → is_register group ≡ true → number ≡ register_group plan
register_group-only plan lawful number group here registers =
    let first = register_group-is plan lawful in
    count-one is_register plan.groups number (register_group plan) group first.0 (eqb-true _ 1 (passes plan lawful).registers) here registers first.1 first.2

-- a number with one to ten lines
pub lines_of-count : (plan : Tables) → IsLawful plan → (number : ℕ) (lines : List Line) → lines_of plan number ≡ Some lines
    → (0 < length lines) × (length lines ≤ 10)
lines_of-count plan lawful number lines e =
    let found = found-item (λ (s : Station). s.lines) (λ (s : Station). s.number == number) plan.stations lines e in
    let size = each_passes (λ (s : Station). is_between 1 10 (length s.lines)) plan.stations found.0 (within plan lawful).lines found.1 in
    let h = between 1 10 (length found.0.lines) size in
    let same = ap length found.3 in
    (omega (arith, h.0, same), omega (arith, h.1, same))

-- and its lines are in range
pub lines_of-range : (plan : Tables) → IsLawful plan → (number : ℕ) (lines : List Line) → lines_of plan number ≡ Some lines → (k : ℕ) (line : Line)
    → slice_get lines k ≡ Some line → IsLine line
lines_of-range plan lawful number lines e k line here =
    let found = found-item (λ (s : Station). s.lines) (λ (s : Station). s.number == number) plan.stations lines e in
    let all = each_passes (λ (s : Station). list_all is_line s.lines) plan.stations found.0 (formed plan lawful).lines found.1 in
    line_in_range line (item_passes is_line found.0.lines k line all (ap (λ (ls : List Line). slice_get ls k) found.3 ∙ here))

-- a code leads to one to four groups
pub route_of-count : (plan : Tables) → IsLawful plan → (code : ℕ) (groups : List ℕ) → route_of plan code ≡ Some groups
    → (0 < length groups) × (length groups ≤ 4)
route_of-count plan lawful code groups e =
    let found = found-item (λ (r : Route). r.groups) (λ (r : Route). r.code == code) plan.routes groups e in
    let size = each_passes (λ (r : Route). is_between 1 4 (length r.groups)) plan.routes found.0 (within plan lawful).routes found.1 in
    let h = between 1 4 (length found.0.groups) size in
    let same = ap length found.3 in
    (omega (arith, h.0, same), omega (arith, h.1, same))

-- which exist
pub route_of-range : (plan : Tables) → IsLawful plan → (code : ℕ) (groups : List ℕ) → route_of plan code ≡ Some groups → (k number : ℕ)
    → slice_get groups k ≡ Some number → number < length plan.groups
route_of-range plan lawful code groups e k number here =
    let found = found-item (λ (r : Route). r.groups) (λ (r : Route). r.code == code) plan.routes groups e in
    let all =
    each_passes (λ (r : Route). list_all (λ (g : ℕ). nat_lt g (length plan.groups)) r.groups) plan.routes found.0 (passes plan lawful).known found.1 in
    ltb-true number (length plan.groups) (item_passes (λ (g : ℕ). nat_lt g (length plan.groups)) found.0.groups k number all
    (ap (λ (gs : List ℕ). slice_get gs k) found.3 ∙ here))

-- a group that passes a test by number exists, and passes
pub group-there : (test : TrunkGroup → Bool) (groups : List TrunkGroup) (number : ℕ) → is_group test groups number ≡ true
    → (group : TrunkGroup) × (slice_get groups number ≡ Some group) × (test group ≡ true)
group-there test groups number e = of (slice_get groups number) refl e where
  of : (o : Option TrunkGroup) → slice_get groups number ≡ o → option_map_or test o false ≡ true
      → (group : TrunkGroup) × (slice_get groups number ≡ Some group) × (test group ≡ true)
  of None here passes = cc
  of (Some group) here passes = (group, here, passes)

leads-only : (test : TrunkGroup → Bool) (plan : Tables) (groups : List ℕ) → list_all (is_group test plan.groups) groups ≡ true → LeadsOnlyTo test plan groups
leads-only test plan groups all = λ k number here.
    group-there test plan.groups number (item_passes (is_group test plan.groups) groups k number all here)

-- all intra, or all outgoing
pub route_of-trunks : (plan : Tables) → IsLawful plan → (code : ℕ) (groups : List ℕ) → route_of plan code ≡ Some groups
    → LeadsOnlyTo is_intra plan groups ⊎ LeadsOnlyTo is_outgoing plan groups
route_of-trunks plan lawful code groups e =
    let found = found-item (λ (r : Route). r.groups) (λ (r : Route). r.code == code) plan.routes groups e in
    let leads = each_passes (leads_to_trunks plan.groups) plan.routes found.0 (passes plan lawful).trunks found.1 in
    subst (λ (gs : List ℕ). LeadsOnlyTo is_intra plan gs ⊎ LeadsOnlyTo is_outgoing plan gs) found.3
    (elim (either (list_all (is_group is_intra plan.groups) found.0.groups) (list_all (is_group is_outgoing plan.groups) found.0.groups) leads)
    as (λ _. LeadsOnlyTo is_intra plan found.0.groups ⊎ LeadsOnlyTo is_outgoing plan found.0.groups) [
      | inl all ↦ inl (leads-only is_intra plan found.0.groups all)
      | inr all ↦ inr (leads-only is_outgoing plan found.0.groups all)
    ])

-- a link that is out of order is in range
pub is_faulty-range : (plan : Tables) → IsLawful plan → (link : Link) → is_faulty plan link ≡ true → IsLink link
is_faulty-range plan lawful link e =
    let among = any_is_in (λ fault. link_eq fault link) link (λ fault same. (link_eq-exact fault link).0 same) plan.faults e in
    link_in_range link (each_passes is_link plan.faults link (formed plan lawful).faults among)

-- an option's value, with what holds of it
of_some : {X : Type 0} (o : Option X) (P : X → Type 0) → IsSomeAnd o P → (x : X) × (o ≡ Some x) × P x
of_some None P h = absurd h
of_some (Some x) P h = (x, refl, h)

true_false : (b : Bool) → b ≡ true → b ≡ false → ⊥
true_false b holds fails = let e : true ≡ false = sym holds ∙ fails in cc

-- a member at a place and no member there exclude each other
found_not_none : (plan : Tables) (place : TrunkPlace) (found : MemberPlace) → IsOfMember plan place found → IsNoMembers plan place → ⊥
found_not_none plan place found is none =
    let h = of_some (member_at plan found.group found.index) (λ member. (stands_at member place ≡ true) × (found.other ≡ other_place member place)) is in
    let here = subst (λ (o : Option Member). IfSome o (λ member. stands_at member place ≡ false)) h.1 (none found.group found.index) in
    true_false (stands_at h.0 place) h.2.0 here

-- only one answer fits a place
pub one_answer : (plan : Tables) → IsLawful plan → (place : TrunkPlace) (found found' : Option MemberPlace) → IsMemberPlace plan place found
    → IsMemberPlace plan place found' → found ≡ found'
one_answer plan lawful place None None none none' = refl
one_answer plan lawful place None (Some found) none is = absurd (found_not_none plan place found is none)
one_answer plan lawful place (Some found) None is none = absurd (found_not_none plan place found is none)
one_answer plan lawful place (Some found) (Some found') is is' =
    let h = of_some (member_at plan found.group found.index) (λ member. (stands_at member place ≡ true) × (found.other ≡ other_place member place)) is in
    let h' = of_some (member_at plan found'.group found'.index) (λ member. (stands_at member place ≡ true) × (found'.other ≡ other_place member place)) is' in
    let same =
    one_member plan lawful found.group found.index found'.group found'.index h.0 h'.0 place h.1 h'.1 (stands_at-has h.0 place h.2.0)
    (stands_at-has h'.0 place h'.2.0) in
    let group = same.0 in
    let index = same.1 in
    let members : Some h.0 ≡ Some h'.0 =
    sym h.1 ∙ ap (λ (g : ℕ). member_at plan g found.index) group ∙ ap (λ (i : ℕ). member_at plan found'.group i) index ∙ h'.1 in
    let member : h.0 ≡ h'.0 = cc in
    let other : found.other ≡ found'.other = h.2.1 ∙ ap (λ (m : Member). other_place m place) member ∙ sym h'.2.1 in
    let places : found ≡ found' = λ i. record { group = group i; index = index i; other = other i } in
    ap (λ (m : MemberPlace). Some m) places
