use Rattle.std.proofs.Common.{◌≡◌, ◌≢◌, ℕ, ◌<◌, ◌≤◌, Bool, true, false, length, inl, refl, sym, ◌∙◌, ap, subst, arith, Option, Some, None, slice_get, ◌==◌}
use Rattle.std.proofs.Common.{option_and_then, option_to_list, is_some, leb-true, eqb-true}
use Rattle.std.{specs.{Option.option_map_or, Bool.beq, List.list_all}, proofs.lemmas.Option.slice_get_within}
use Rattle.xbar_equip.{specs.{Ten.{TrunkPlace, IsTrunkPlace, is_trunk_place, place_eq}, Among.IsIn}, proofs.{PathTests.place_eq-exact, Ranges.place_in_range}}
use Rattle.{xbar_equip.proofs.{Logic.both, Lists.{each_passes, any_passes, any_is_in}}, xbar_plan.specs.Group.{TrunkGroup, places, stands_at, is_intra}}
use Rattle.xbar_plan.specs.{Group.is_register, Tables.{Tables, member_at}, Lawful.{IsLawful, is_between, group_places, all_places, is_name, has_its_places}}
use Rattle.xbar_plan.{specs.{Lawful.{is_well_formed_group, is_on_one_frame}, declared.group.Member.Member}, proofs.Ranges.between}
use Rattle.xbar_plan.proofs.{Distinct.{at_flat_map, item_passes, distinct-at, not_again, one_giver}, Lookups.position-one, LawfulParts.{passes, formed, within}}

-- the test finds a place equal to itself
pub place_eq-itself : (place : TrunkPlace) → place_eq place place ≡ true
place_eq-itself place = (place_eq-exact place place).1 refl

-- a member is at the places that it has
pub stands_at-has : (member : Member) (place : TrunkPlace) → stands_at member place ≡ true → IsIn place (places member)
stands_at-has member place e =
    any_is_in (λ own. place_eq own place) place (λ own same. (place_eq-exact own place).0 same) (places member) e

pub has-stands_at : (member : Member) (place : TrunkPlace) → IsIn place (places member) → stands_at member place ≡ true
has-stands_at member place h = any_passes (λ own. place_eq own place) (places member) place h (place_eq-itself place)

-- a member of a plan is a member of a group of it
pub record IsMemberOf (plan : Tables) (number index : ℕ) (member : Member) : Type 0 where
  pub group : TrunkGroup
  pub group_is : slice_get plan.groups number ≡ Some group
  pub member_is : slice_get group.members index ≡ Some member

pub member_at-group : (plan : Tables) (number index : ℕ) (member : Member) → member_at plan number index ≡ Some member → IsMemberOf plan number index member
member_at-group plan number index member e = of (slice_get plan.groups number) refl e where
  of : (o : Option TrunkGroup) → slice_get plan.groups number ≡ o → option_and_then (λ found. slice_get found.members index) o ≡ Some member
      → IsMemberOf plan number index member
  of None is e = cc
  of (Some group) is e = record { group = group; group_is = is; member_is = e }

-- its places are places of the plan
pub member-places : (plan : Tables) (number index : ℕ) (member : Member) (place : TrunkPlace) → member_at plan number index ≡ Some member
    → IsIn place (places member) → IsIn place (all_places plan.groups)
member-places plan number index member place e h =
    let of = member_at-group plan number index member e in
    at_flat_map group_places plan.groups number of.group place of.group_is (at_flat_map places of.group.members index member place of.member_is h)

-- and in range
pub place_at-range : (plan : Tables) → IsLawful plan → (number index : ℕ) (member : Member) (place : TrunkPlace) → member_at plan number index ≡ Some member
    → IsIn place (places member) → IsTrunkPlace place
place_at-range plan lawful number index member place e h =
    place_in_range place (each_passes is_trunk_place (all_places plan.groups) place (formed plan lawful).places
    (member-places plan number index member place e h))

-- two members at the same place are the same
pub one_member : (plan : Tables) → IsLawful plan → (number index number' index' : ℕ) (member member' : Member) (place : TrunkPlace)
    → member_at plan number index ≡ Some member → member_at plan number' index' ≡ Some member' → IsIn place (places member) → IsIn place (places member')
    → (number ≡ number') × (index ≡ index')
one_member plan lawful number index number' index' member member' place e e' h h' =
    let of = member_at-group plan number index member e in
    let of' = member_at-group plan number' index' member' e' in
    let in_group = at_flat_map places of.group.members index member place of.member_is h in
    let in_group' = at_flat_map places of'.group.members index' member' place of'.member_is h' in
    let same : number ≡ number' =
    one_giver place_eq place_eq-itself group_places plan.groups number number' of.group of'.group place (passes plan lawful).places_once of.group_is
    of'.group_is in_group in_group' in
    let group : Some of.group ≡ Some of'.group = sym of.group_is ∙ ap (slice_get plan.groups) same ∙ of'.group_is in
    let groups : of.group ≡ of'.group = cc in
    let here : slice_get of.group.members index' ≡ Some member' = ap (λ (g : TrunkGroup). slice_get g.members index') groups ∙ of'.member_is in
    let once = distinct-at place_eq place_eq-itself group_places plan.groups number of.group (passes plan lawful).places_once of.group_is in
    (same, one_giver place_eq place_eq-itself places of.group.members index index' member member' place once of.member_is here h h')

-- a plan has one to sixteen groups
pub group_count-range : (plan : Tables) → IsLawful plan → (0 < length plan.groups) × (length plan.groups ≤ 16)
group_count-range plan lawful =
    let first = position-one is_register plan.groups (eqb-true _ 1 (passes plan lawful).registers) in
    let there = slice_get_within plan.groups _ first.0 first.1 in
    (omega (arith, there), leb-true (length plan.groups) 16 (within plan lawful).groups)

-- each with one to forty members
pub member_count-range : (plan : Tables) → IsLawful plan → (number : ℕ) (group : TrunkGroup) → slice_get plan.groups number ≡ Some group
    → (0 < length group.members) × (length group.members ≤ 40)
member_count-range plan lawful number group here =
    let size = item_passes (λ (g : TrunkGroup). is_between 1 40 (length g.members)) plan.groups number group (within plan lawful).members here in
    let h = between 1 40 (length group.members) size in
    (omega (arith, h.0), h.1)

-- so the number of a member's group is below sixteen, and its index below forty
pub member-numbers : (plan : Tables) → IsLawful plan → (number index : ℕ) (member : Member) → member_at plan number index ≡ Some member
    → (number < 16) × (index < 40)
member-numbers plan lawful number index member here =
    let of = member_at-group plan number index member here in
    let groups = group_count-range plan lawful in
    let members = member_count-range plan lawful number of.group of.group_is in
    let within = slice_get_within plan.groups number of.group of.group_is in
    let within' = slice_get_within of.group.members index member of.member_is in
    (omega (arith, groups.1, within), omega (arith, members.1, within'))

-- two places for an intra member, and only there
pub member-paired : (plan : Tables) → IsLawful plan → (number index : ℕ) (group : TrunkGroup) (member : Member) → slice_get plan.groups number ≡ Some group
    → member_at plan number index ≡ Some member → is_some member.second ≡ is_intra group
member-paired plan lawful number index group member there here =
    let of = member_at-group plan number index member here in
    let groups : Some of.group ≡ Some group = sym of.group_is ∙ there in
    let same : of.group ≡ group = cc in
    let well = item_passes is_well_formed_group plan.groups number of.group (formed plan lawful).groups of.group_is in
    let all = (both (is_name of.group.name) (has_its_places of.group) well).1 in
    let one = item_passes (λ (m : Member). beq (is_some m.second) (is_intra of.group)) of.group.members index member all of.member_is in
    beq-same (is_some member.second) (is_intra of.group) one ∙ ap is_intra same where
      beq-same : (a b : Bool) → beq a b ≡ true → a ≡ b
      beq-same true true e = refl
      beq-same false false e = refl
      beq-same true false e = cc
      beq-same false true e = cc

-- the two places of a pair are on one trunk link frame
pub pair-frame : (plan : Tables) → IsLawful plan → (number index : ℕ) (member : Member) (second : TrunkPlace) → member_at plan number index ≡ Some member
    → member.second ≡ Some second → second.frame ≡ member.first.frame
pair-frame plan lawful number index member second here paired =
    let of = member_at-group plan number index member here in
    let all = item_passes (λ (g : TrunkGroup). list_all is_on_one_frame g.members) plan.groups number of.group (passes plan lawful).frames of.group_is in
    let one = item_passes is_on_one_frame of.group.members index member all of.member_is in
    eqb-true second.frame member.first.frame
    (sym (ap (λ (o : Option TrunkPlace). option_map_or (λ place. place.frame == member.first.frame) o true) paired) ∙ one)

-- and they differ
pub pair-apart : (plan : Tables) → IsLawful plan → (number index : ℕ) (member : Member) (second : TrunkPlace) → member_at plan number index ≡ Some member
    → member.second ≡ Some second → second ≢ member.first
pair-apart plan lawful number index member second here paired same =
    let of = member_at-group plan number index member here in
    let group = distinct-at place_eq place_eq-itself group_places plan.groups number of.group (passes plan lawful).places_once of.group_is in
    let own = distinct-at place_eq place_eq-itself places of.group.members index member group of.member_is in
    let among : IsIn second (option_to_list member.second) = subst (λ (o : Option TrunkPlace). IsIn second (option_to_list o)) (sym paired) (inl refl) in
    not_again place_eq place_eq-itself member.first (option_to_list member.second) own
    (subst (λ (p : TrunkPlace). IsIn p (option_to_list member.second)) same among)
