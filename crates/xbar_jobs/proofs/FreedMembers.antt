-- which members of the groups are busy before and after a call was let go
use Rattle.std.proofs.Common.{◌≡◌, ℕ, ◌⊎◌, Bool, true, false, List, ◌∷◌, inl, inr, refl, sym, ◌∙◌, ap, subst, Option, Some, None, not, option_and_then}
use Rattle.std.proofs.Common.{option_to_list, if◌then◌else◌, true≢false}
use Rattle.{std.specs.List.list_all, xbar_equip.specs.{Among.IsIn, Ten.{TrunkPlace, place_eq}, Paths.{has_place, is_idle, without_path}}}
use Rattle.xbar_equip.{specs.declared.path.Path.Path, proofs.{Lists.{all_pass, each_passes, found_passes}, PathSets.in-without, PathTests.place_eq-exact}}
use Rattle.xbar_plan.specs.{Group.{places, other_place}, Tables.{Tables, member_at, member_place}, Lawful.IsLawful, declared.group.Member.Member}
use Rattle.xbar_plan.{specs.declared.group.MemberPlace.MemberPlace, proofs.LawfulPlans.{one_member, stands_at-has, place_eq-itself}}
use Rattle.{xbar_plan.proofs.{MemberPlaces.{IsNamed, member_place-member}, OtherPlaces.{AreOthers, others}}, xbar_office.specs.LawfulSet.IsLawfulSet}
use Rattle.xbar_office.{specs.{Release.without_other, Standing.{path_at, other_path}}, proofs.ReleaseJobs.{own_gone, other_gone, others_stay}}
use Rattle.{xbar_office.proofs.RemovedPaths.busy-in, xbar_jobs.{specs.Office.is_busy_at, proofs.BusyMembers.{as_idle, busy_of}}}

-- of a member's places, seen from one of them, each is that one or the other one
two_places : (first : TrunkPlace) (second : Option TrunkPlace) (own place : TrunkPlace) (b : Bool) → place_eq first own ≡ b
    → IsIn own (first ∷ option_to_list second) → IsIn place (first ∷ option_to_list second)
    → (place ≡ own) ⊎ ((if b then second else Some first) ≡ Some place)
two_places first second own place true e there (inl is) = inl (is ∙ (place_eq-exact first own).0 e)
two_places first None own place true e there (inr none) = absurd none
two_places first (Some second) own place true e there (inr (inl is)) = inr (ap (λ (p : TrunkPlace). Some p) (sym is))
two_places first (Some second) own place true e there (inr (inr none)) = absurd none
two_places first second own place false e there (inl is) = inr (ap (λ (p : TrunkPlace). Some p) (sym is))
two_places first second own place false e (inl is) (inr within) = absurd (true≢false (sym ((place_eq-exact first own).1 (sym is)) ∙ e))
two_places first None own place false e (inr none) (inr within) = absurd none
two_places first (Some second) own place false e (inr (inl is)) (inr (inl same)) = inl (same ∙ sym is)
two_places first (Some second) own place false e (inr (inl is)) (inr (inr none)) = absurd none
two_places first (Some second) own place false e (inr (inr none)) (inr within) = absurd none

-- a test that one item fails is not passed by all
one_fails : {A : Type 0} (test : A → Bool) (items : List A) (item : A) → IsIn item items → test item ≡ false → (b : Bool) → list_all test items ≡ b → b ≡ false
one_fails test items item within fails false e = refl
one_fails test items item within fails true e = sym (each_passes test items item e within) ∙ fails

module _ (plan : Tables) (paths : List Path) (own : Path) (found : MemberPlace) (laws : IsLawful plan) (lawful : IsLawfulSet plan paths)
    (within : IsIn own paths) (here : member_place plan own.place ≡ Some found) where
  abbrev after : List Path
  after = without_other (without_path paths own) (other_path plan paths own)

  named : IsNamed plan own.place found
  named = member_place-member plan own.place found here

  -- the own path ends at a place of the member
  own_there : IsIn own.place (places named.member)
  own_there = stands_at-has named.member own.place named.stands

  other_by : (seen : Option TrunkPlace) → other_place named.member own.place ≡ seen → other_path plan paths own ≡ option_and_then (path_at paths) seen
  other_by seen e =
      ap (λ (o : Option MemberPlace). option_and_then (path_at paths) (option_and_then (λ member. member.other) o)) here
      ∙ ap (option_and_then (path_at paths)) (named.other ∙ e)

  -- the other party's path is one of the set, and ends at the other place that is seen from there
  record IsBeside (other : Path) : Type 0 where
    seen : other_place named.member own.place ≡ Some other.place
    among : IsIn other paths

  beside : (other : Path) → other_path plan paths own ≡ Some other → IsBeside other
  beside other is = by (other_place named.member own.place) refl where
    by : (seen : Option TrunkPlace) → other_place named.member own.place ≡ seen → IsBeside other
    by None e = let none : None ≡ Some other = sym (other_by None e) ∙ is in absurd cc
    by (Some place) e =
        let passes = found_passes (has_place place) paths other (sym (other_by (Some place) e) ∙ is) in
        record { seen = e ∙ ap (λ (p : TrunkPlace). Some p) (sym ((place_eq-exact other.place place).0 passes.1)); among = passes.0 }

  seen_from_own : (other : Path) → IsBeside other → AreOthers named.member own.place other.place
  seen_from_own other is = others plan laws found.group found.index named.member own.place other.place named.here named.stands is.seen

  other_there : (other : Path) → other_path plan paths own ≡ Some other → IsIn other.place (places named.member)
  other_there other is = stands_at-has named.member other.place (seen_from_own other (beside other is)).stands

  -- it is still there once the own path is taken out
  pub other_stays : (other : Path) → other_path plan paths own ≡ Some other → IsIn other (without_path paths own)
  other_stays other is =
      let by = beside other is in
      in-without paths own other by.among (λ same. (seen_from_own other by).apart (ap (λ (path : Path). path.place) same))

  -- each of the member's places is idle once both are gone
  idle_then : (place : TrunkPlace) → IsIn place (places named.member) → is_idle (has_place place) after ≡ true
  idle_then place there =
      elim (two_places named.member.first named.member.second own.place place (place_eq named.member.first own.place) refl own_there there) [
        | inl same ↦ subst (λ (p : TrunkPlace). is_idle (has_place p) after ≡ true) (sym same)
            (own_gone plan paths own laws lawful within (other_path plan paths own))
        | inr beside ↦
            subst (λ (other : Option Path). is_idle (has_place place) (without_other (without_path paths own) other) ≡ true)
            (sym (other_by (Some place) beside))
            (other_gone plan paths own laws lawful within place (path_at paths place) refl)
      ]

  -- so the member is not busy then
  pub freed_after : is_busy_at plan after found.group found.index ≡ false
  freed_after = ap (busy_of after) named.here ∙ ap not (all_pass (λ place. is_idle (has_place place) after) (places named.member) idle_then)

  -- as it was before
  pub busy_before : is_busy_at plan paths found.group found.index ≡ true
  busy_before =
      let busy : is_idle (has_place own.place) paths ≡ false = busy-in (has_place own.place) paths own within (place_eq-itself own.place) in
      let one : list_all (λ place. is_idle (has_place place) paths) (places named.member) ≡ false =
      one_fails (λ place. is_idle (has_place place) paths) (places named.member) own.place own_there busy _ refl in
      ap (busy_of paths) named.here ∙ ap not one

  -- a path at one of the member's places is at no place of another member
  not_there : (number at : ℕ) (member : Member) → member_at plan number at ≡ Some member → (number ≡ found.group → at ≡ found.index → ⊥)
      → (place : TrunkPlace) → IsIn place (places member) → (path : Path) → IsIn path.place (places named.member) → (b : Bool) → has_place place path ≡ b
      → b ≡ false
  not_there number at member listed other place there path its false e = refl
  not_there number at member listed other place there path its true e =
      let same : path.place ≡ place = (place_eq-exact path.place place).0 e in
      let shared : IsIn place (places named.member) = subst (λ (p : TrunkPlace). IsIn p (places named.member)) same its in
      let one = one_member plan laws number at found.group found.index member named.member place listed named.here there shared in
      absurd (other one.0 one.1)

  -- and every other member is as busy as before
  pub others_as_before : (number at : ℕ) → (number ≡ found.group → at ≡ found.index → ⊥) → is_busy_at plan after number at ≡ is_busy_at plan paths number at
  others_as_before number at other = by (member_at plan number at) refl where
    stay : (member : Member) → member_at plan number at ≡ Some member → (place : TrunkPlace) → IsIn place (places member)
        → is_idle (has_place place) after ≡ is_idle (has_place place) paths
    stay member listed place there =
        others_stay plan paths own laws lawful within place (other_path plan paths own)
        (not_there number at member listed other place there own own_there (has_place place own) refl)
        (λ q is. not_there number at member listed other place there q (other_there q is) (has_place place q) refl)

    by : (o : Option Member) → member_at plan number at ≡ o → busy_of after o ≡ busy_of paths o
    by None listed = refl
    by (Some member) listed = ap not (as_idle paths after (places member) (stay member listed))
