-- a release leaves a lawful set
use Rattle.std.proofs.Common.{◌≡◌, ℕ, Bool, true, false, cond, List, [], ◌∷◌, inl, inr, refl, sym, ◌∙◌, ap, subst, Option, Some, None, IfSome, not, ◌||◌, find}
use Rattle.std.proofs.Common.{option_and_then, option_to_list, if◌then◌else◌, true≢false}
use Rattle.{std.specs.List.list_any, xbar_equip.specs.{Among.IsIn, Len.Line, Ten.{TrunkPlace, place_eq}, Paths.{has_line, has_place, is_idle, without_path}}}
use Rattle.xbar_equip.{specs.declared.path.Path.Path, proofs.{Lists.found_passes, PathSets.without-in, PathTests.place_eq-exact}}
use Rattle.xbar_plan.specs.{Group.{places, stands_at, other_place}, Tables.{Tables, member_at, member_place, IsNoMembers, IsMemberPlace}, Lawful.IsLawful}
use Rattle.xbar_plan.{specs.declared.group.{Member.Member, MemberPlace.MemberPlace}, proofs.LawfulPlans.{one_member, stands_at-has, pair-apart}}
use Rattle.xbar_plan.proofs.{MemberPlaces.{IsNamed, member_place-fits, member_place-member}, OtherPlaces.others}
use Rattle.xbar_office.specs.{LawfulSet.{IsMembersPlace, IsOrderlySet, IsLawfulSet, HasWholePairs}, Release.{without_other, release, release_from}}
use Rattle.xbar_office.specs.Standing.{path_of, path_at, other_path}
use Rattle.xbar_office.proofs.{RemovedPaths.{idle-without, idle-without_other, idle-without_own, orderly-without}, TakenMembers.second-has}

-- if a search finds nothing, nothing passes
none_found : (has : Path → Bool) (paths : List Path) → find has paths ≡ None → list_any has paths ≡ false
none_found has [] e = refl
none_found has (p ∷ paths) e = of (has p) (none_found has paths) e where
  of : (b : Bool) → (find has paths ≡ None → list_any has paths ≡ false) → cond b (Some p) (find has paths) ≡ None → (b || list_any has paths) ≡ false
  of true rest e = cc
  of false rest e = rest e

pub idle-not_found : (has : Path → Bool) (paths : List Path) → find has paths ≡ None → is_idle has paths ≡ true
idle-not_found has paths e = ap not (none_found has paths e)

-- a place of a member is not a place without members
not_no_members : (plan : Tables) (place : TrunkPlace) → IsMembersPlace plan place → IsNoMembers plan place → ⊥
not_no_members plan place own none =
    let here = subst (λ (o : Option Member). IfSome o (λ member. stands_at member place ≡ false)) own.listed (none own.group own.index) in
    true≢false (sym own.stands ∙ here)

-- the member at the place of a path, by the plan's answer
pub record IsNamedAt (plan : Tables) (place : TrunkPlace) : Type 0 where
  pub found : MemberPlace
  pub here : member_place plan place ≡ Some found
  pub named : IsNamed plan place found

pub named_at : (plan : Tables) (place : TrunkPlace) → IsMembersPlace plan place → IsNamedAt plan place
named_at plan place own = of (member_place plan place) refl (member_place-fits plan place) where
  of : (o : Option MemberPlace) → member_place plan place ≡ o → IsMemberPlace plan place o → IsNamedAt plan place
  of None e none = absurd (not_no_members plan place own none)
  of (Some found) e is = record { found = found; here = e; named = member_place-member plan place found e }

-- what is left of an orderly set
orderly_other : (plan : Tables) (paths : List Path) (other : Option Path) → IsOrderlySet plan paths → IsOrderlySet plan (without_other paths other)
orderly_other plan paths None orderly = orderly
orderly_other plan paths (Some other) orderly = orderly-without plan paths other orderly

module _ (plan : Tables) (paths : List Path) (own : Path) (laws : IsLawful plan) (lawful : IsLawfulSet plan paths) (within : IsIn own paths) where
  abbrev rest : List Path
  rest = without_path paths own

  rest_orderly : IsOrderlySet plan (without_path paths own)
  rest_orderly = orderly-without plan paths own lawful.orderly

  named : IsNamedAt plan own.place
  named = named_at plan own.place (lawful.orderly.places own within)

  same_place : (p q : Path) (place : TrunkPlace) → has_place place p ≡ true → has_place place q ≡ true → p.place ≡ q.place
  same_place p q place a b = (place_eq-exact p.place place).0 a ∙ sym ((place_eq-exact q.place place).0 b)

  -- the place of the own path is idle after it
  own_gone_alone : is_idle (has_place own.place) rest ≡ true
  own_gone_alone =
      idle-without_own (has_place own.place) paths own lawful.orderly.set
      (λ q there has. lawful.orderly.apart q own there within (inr (inl ((place_eq-exact q.place own.place).0 has))))

  pub own_gone : (other : Option Path) → is_idle (has_place own.place) (without_other rest other) ≡ true
  own_gone None = own_gone_alone
  own_gone (Some other) = idle-without (has_place own.place) rest other rest_orderly.set own_gone_alone

  -- and so is a place whose path is removed too
  pub other_gone : (place : TrunkPlace) (found : Option Path) → path_at paths place ≡ found → is_idle (has_place place) (without_other rest found) ≡ true
  other_gone place None e = idle-without (has_place place) paths own lawful.orderly.set (idle-not_found (has_place place) paths e)
  other_gone place (Some other) e =
      let passes = found_passes (has_place place) paths other e in
      idle-without_own (has_place place) rest other rest_orderly.set
      (λ q there has. lawful.orderly.apart q other (without-in paths own q lawful.orderly.set there).0 passes.0
      (inr (inl (same_place q other place has passes.1))))

  -- other places are as idle as before
  pub others_stay : (place : TrunkPlace) (other : Option Path) → has_place place own ≡ false → ((q : Path) → other ≡ Some q → has_place place q ≡ false)
      → is_idle (has_place place) (without_other rest other) ≡ is_idle (has_place place) paths
  others_stay place None not_own not_other = idle-without_other (has_place place) paths own not_own
  others_stay place (Some other) not_own not_other =
      idle-without_other (has_place place) rest other (not_other other refl) ∙ idle-without_other (has_place place) paths own not_own

  -- the other path is at the other place of the member
  other_by : (o : Option TrunkPlace) → other_place named.named.member own.place ≡ o → other_path plan paths own ≡ option_and_then (path_at paths) o
  other_by o e =
      ap (λ (found : Option MemberPlace). option_and_then (path_at paths) (option_and_then (λ f. f.other) found)) named.here
      ∙ ap (option_and_then (path_at paths)) (named.named.other ∙ e)

  -- a member at the own path's place is the one that was found
  same_member : (number at : ℕ) (member : Member) → member_at plan number at ≡ Some member → IsIn own.place (places member) → named.named.member ≡ member
  same_member number at member listed there =
      let is = named.named in
      let one =
      one_member plan laws named.found.group named.found.index number at is.member member own.place is.here listed (stands_at-has is.member own.place is.stands)
      there in
      let members : Some is.member ≡ Some member =
      sym is.here ∙ ap (λ (g : ℕ). member_at plan g named.found.index) one.0 ∙ ap (member_at plan number) one.1 ∙ listed in
      cc

  module _ (number at : ℕ) (member : Member) (second : TrunkPlace) (listed : member_at plan number at ≡ Some member)
      (paired : member.second ≡ Some second) where
    -- a pair with the own path at its first place
    at_first : own.place ≡ member.first
        → is_idle (has_place member.first) (without_other rest (other_path plan paths own))
        ≡ is_idle (has_place second) (without_other rest (other_path plan paths own))
    at_first first =
        let is_member = same_member number at member listed (inl first) in
        let test : place_eq member.first own.place ≡ true = (place_eq-exact member.first own.place).1 (sym first) in
        let other : other_place named.named.member own.place ≡ Some second =
        ap (λ (m : Member). other_place m own.place) is_member ∙ ap (λ (b : Bool). if b then member.second else Some member.first) test ∙ paired in
        let by = other_by (Some second) other in
        subst (λ (p : TrunkPlace). is_idle (has_place p) (without_other rest (other_path plan paths own)) ≡ true) first (own_gone (other_path plan paths own))
        ∙ sym (subst (λ (found : Option Path). is_idle (has_place second) (without_other rest found) ≡ true) (sym by)
        (other_gone second (path_at paths second) refl))

    -- or at its second place
    at_second : own.place ≡ second → place_eq member.first own.place ≡ false
        → is_idle (has_place member.first) (without_other rest (other_path plan paths own))
        ≡ is_idle (has_place second) (without_other rest (other_path plan paths own))
    at_second same test =
        let there : IsIn own.place (places member) = subst (λ (p : TrunkPlace). IsIn p (places member)) (sym same) (second-has member second paired) in
        let is_member = same_member number at member listed there in
        let other : other_place named.named.member own.place ≡ Some member.first =
        ap (λ (m : Member). other_place m own.place) is_member ∙ ap (λ (b : Bool). if b then member.second else Some member.first) test in
        let by = other_by (Some member.first) other in
        subst (λ (found : Option Path). is_idle (has_place member.first) (without_other rest found) ≡ true) (sym by)
        (other_gone member.first (path_at paths member.first) refl)
        ∙ sym (subst (λ (p : TrunkPlace). is_idle (has_place p) (without_other rest (other_path plan paths own)) ≡ true) same
        (own_gone (other_path plan paths own)))

    -- if the own path is at no place of a pair, neither is the other path
    not_others : (place : TrunkPlace) → IsIn place (places member) → (IsIn own.place (places member) → ⊥) → (q : Path) → other_path plan paths own ≡ Some q
        → (b : Bool) → has_place place q ≡ b → b ≡ false
    not_others place there apart q is false e = refl
    not_others place there apart q is true e = absurd (of (other_place named.named.member own.place) refl) where
      of : (o : Option TrunkPlace) → other_place named.named.member own.place ≡ o → ⊥
      of None none = let nothing : None ≡ Some q = sym (other_by None none) ∙ is in cc
      of (Some other) some =
          let passes = found_passes (has_place other) paths q (sym (other_by (Some other) some) ∙ is) in
          let same : place ≡ other = sym ((place_eq-exact q.place place).0 e) ∙ (place_eq-exact q.place other).0 passes.1 in
          let stands =
          stands_at-has named.named.member other (others plan laws named.found.group named.found.index named.named.member own.place other named.named.here
          named.named.stands some).stands in
          let one =
          one_member plan laws named.found.group named.found.index number at named.named.member member other named.named.here listed stands
          (subst (λ (p : TrunkPlace). IsIn p (places member)) same there) in
          let members : Some named.named.member ≡ Some member =
          sym named.named.here ∙ ap (λ (g : ℕ). member_at plan g named.found.index) one.0 ∙ ap (member_at plan number) one.1 ∙ listed in
          let same_member : named.named.member ≡ member = cc in
          apart (subst (λ (m : Member). IsIn own.place (places m)) same_member (stands_at-has named.named.member own.place named.named.stands))

    elsewhere : (IsIn own.place (places member) → ⊥) → has_place member.first own ≡ false → has_place second own ≡ false
        → is_idle (has_place member.first) (without_other rest (other_path plan paths own))
        ≡ is_idle (has_place second) (without_other rest (other_path plan paths own))
    elsewhere apart not_first not_second =
        let there = second-has member second paired in
        others_stay member.first (other_path plan paths own) not_first (λ q is. not_others member.first (inl refl) apart q is (has_place member.first q) refl)
        ∙ lawful.pairs number at member listed second paired
        ∙ sym (others_stay second (other_path plan paths own) not_second (λ q is. not_others second there apart q is (has_place second q) refl))

    not_there : has_place member.first own ≡ false → has_place second own ≡ false → IsIn own.place (places member) → ⊥
    not_there not_first not_second (inl e) = true≢false (sym ((place_eq-exact own.place member.first).1 e) ∙ not_first)
    not_there not_first not_second (inr later) =
        elim (subst (λ (o : Option TrunkPlace). IsIn own.place (option_to_list o)) paired later) [
          | inl e ↦ true≢false (sym ((place_eq-exact own.place second).1 e) ∙ not_second)
          | inr none ↦ none
        ]

    by_places : (b c : Bool) → has_place member.first own ≡ b → has_place second own ≡ c
        → is_idle (has_place member.first) (without_other rest (other_path plan paths own))
        ≡ is_idle (has_place second) (without_other rest (other_path plan paths own))
    by_places true c first second_is = at_first ((place_eq-exact own.place member.first).0 first)
    by_places false true first second_is =
        let same = (place_eq-exact own.place second).0 second_is in
        at_second same (unequal (place_eq member.first own.place)
        (λ e. pair-apart plan laws number at member second listed paired (sym ((place_eq-exact member.first own.place).0 e ∙ same)))) where
          unequal : (b : Bool) → (b ≡ true → ⊥) → b ≡ false
          unequal false never = refl
          unequal true never = absurd (never refl)
    by_places false false first second_is = elsewhere (not_there first second_is) first second_is

  -- so a pair has both of its paths or neither
  pairs_released : HasWholePairs plan (without_other rest (other_path plan paths own))
  pairs_released number at member listed second paired =
      by_places number at member second listed paired (has_place member.first own) (has_place second own) refl refl

  pub lawful-released : IsLawfulSet plan (without_other rest (other_path plan paths own))
  lawful-released = record { orderly = orderly_other plan rest (other_path plan paths own) rest_orderly; pairs = pairs_released }

-- a release leaves a lawful set
pub lawful-release : (plan : Tables) (paths : List Path) (line : Line) → IsLawful plan → IsLawfulSet plan paths
    → IsLawfulSet plan (release plan paths line).paths
lawful-release plan paths line laws lawful = of (path_of paths line) refl where
  of : (found : Option Path) → path_of paths line ≡ found → IsLawfulSet plan (release_from plan paths found).paths
  of None e = lawful
  of (Some own) e = lawful-released plan paths own laws lawful (found_passes (has_line line) paths own e).0
