use Rattle.std.proofs.Common.{◌≡◌, ◌≢◌, ℕ, Bool, true, false, inl, inr, refl, sym, ◌∙◌, ap, subst, Option, Some, None, option_to_list, is_some, if◌then◌else◌}
use Rattle.xbar_equip.{specs.{Ten.{TrunkPlace, place_eq}, Among.IsIn}, proofs.PathTests.place_eq-exact}
use Rattle.xbar_plan.specs.{Group.{places, stands_at, other_place}, Tables.{Tables, member_at}, Lawful.IsLawful, declared.group.Member.Member}
use Rattle.xbar_plan.proofs.LawfulPlans.{stands_at-has, has-stands_at, pair-frame, pair-apart}

-- how two places of one member are related
pub record AreOthers (member : Member) (place other : TrunkPlace) : Type 0 where
  pub stands : stands_at member other ≡ true
  pub apart : other ≢ place
  pub frame : other.frame ≡ place.frame
  pub back : other_place member other ≡ Some place

not_one : (a b : TrunkPlace) → a ≢ b → place_eq a b ≡ false
not_one a b apart = of (place_eq a b) refl where
  of : (t : Bool) → place_eq a b ≡ t → t ≡ false
  of true e = absurd (apart ((place_eq-exact a b).0 e))
  of false e = refl

-- the other place of the first is the second, and the other place of any other is the first
other-first : (member : Member) (place : TrunkPlace) → member.first ≡ place → other_place member place ≡ member.second
other-first member place same =
    ap (λ (b : Bool). if b then member.second else Some member.first) ((place_eq-exact member.first place).1 same)

other-second : (member : Member) (place : TrunkPlace) → member.first ≢ place → other_place member place ≡ Some member.first
other-second member place apart =
    ap (λ (b : Bool). if b then member.second else Some member.first) (not_one member.first place apart)

second_is : (o : Option TrunkPlace) (place : TrunkPlace) → IsIn place (option_to_list o) → o ≡ Some place
second_is None place h = absurd h
second_is (Some second) place (inl same) = ap (λ (p : TrunkPlace). Some p) (sym same)
second_is (Some second) place (inr h) = absurd h

-- the other place of a member's place, in a lawful plan
pub others : (plan : Tables) → IsLawful plan → (number index : ℕ) (member : Member) (place other : TrunkPlace) → member_at plan number index ≡ Some member
    → stands_at member place ≡ true → other_place member place ≡ Some other → AreOthers member place other
others plan lawful number index member place other here stands seen = of (stands_at-has member place stands) where
  of : IsIn place (places member) → AreOthers member place other
  of (inl is_first) =
      let first : member.first ≡ place = sym is_first in
      let second : member.second ≡ Some other = sym (other-first member place first) ∙ seen in
      let apart : other ≢ member.first = pair-apart plan lawful number index member other here second in
      let among : IsIn other (option_to_list member.second) = subst (λ (o : Option TrunkPlace). IsIn other (option_to_list o)) (sym second) (inl refl) in
      record {
        stands = has-stands_at member other (inr among);
        apart = λ same. apart (same ∙ is_first);
        frame = pair-frame plan lawful number index member other here second ∙ ap (λ (p : TrunkPlace). p.frame) first;
        back = other-second member other (λ same. apart (sym same)) ∙ ap (λ (p : TrunkPlace). Some p) first;
      }
  of (inr is_second) =
      let second : member.second ≡ Some place = second_is member.second place is_second in
      let apart : place ≢ member.first = pair-apart plan lawful number index member place here second in
      let both : Some member.first ≡ Some other = sym (other-second member place (λ same. apart (sym same))) ∙ seen in
      let first : member.first ≡ other = cc in
      record {
        stands = has-stands_at member other (inl (sym first));
        apart = λ same. apart (sym same ∙ sym first);
        frame = sym (pair-frame plan lawful number index member place here second ∙ ap (λ (p : TrunkPlace). p.frame) first);
        back = other-first member other first ∙ second;
      }

-- a place of a member has another place exactly if the member has two
pub other-paired : (plan : Tables) → IsLawful plan → (number index : ℕ) (member : Member) (place : TrunkPlace) → member_at plan number index ≡ Some member
    → stands_at member place ≡ true → is_some (other_place member place) ≡ is_some member.second
other-paired plan lawful number index member place here stands = of (stands_at-has member place stands) where
  of : IsIn place (places member) → is_some (other_place member place) ≡ is_some member.second
  of (inl is_first) = ap is_some (other-first member place (sym is_first))
  of (inr is_second) =
      let second : member.second ≡ Some place = second_is member.second place is_second in
      let apart : place ≢ member.first = pair-apart plan lawful number index member place here second in
      ap is_some (other-second member place (λ same. apart (sym same))) ∙ sym (ap is_some second)
