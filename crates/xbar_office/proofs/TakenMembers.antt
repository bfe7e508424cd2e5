-- the paths that a trial chose on an idle member can be added to a set, and leave it lawful
use Rattle.std.proofs.Common.{◌≡◌, ℕ, ◌+◌, Bool, true, false, List, length, inl, inr, refl, sym, ◌∙◌, ap, subst, arith, Option, Some, None, ◌==◌, ◌&&◌, not}
use Rattle.std.proofs.Common.{option_to_list, eqb-true, eq-eqb, true≢false}
use Rattle.xbar_equip.{specs.{Among.IsIn, Ten.TrunkPlace, Paths.{has_place, is_idle, with_path}, declared.path.Path.Path}, proofs.PathTests.place_eq-exact}
use Rattle.xbar_plan.{specs.{Group.places, Tables.{Tables, member_at}, Lawful.IsLawful, declared.group.Member.Member}, proofs.LawfulPlans.one_member}
use Rattle.xbar_office.specs.{Chosen.with_chosen, Done.with_call_paths, LawfulSet.{IsOrderlySet, IsLawfulSet, HasWholePairs, HasBothOrNone}}
use Rattle.xbar_office.specs.{Members.is_member_idle, AddedPaths.call_count, declared.trial.CallPaths.CallPaths}
use Rattle.xbar_office.proofs.{AddedPaths.{idle-with, idle-with_other, idle-with_own}, StandingPaths.{CanStand, orderly-with, length-stands}}

-- for a pair, the called path can be added at the second place; for a member with one place there
-- is no called path
abbrev pub CalledCanStand : Tables → List Path → Option TrunkPlace → Option Path → Type 0
CalledCanStand plan paths None None = Unit {0}
CalledCanStand plan paths None (Some called) = ⊥
CalledCanStand plan paths (Some second) None = ⊥
CalledCanStand plan paths (Some second) (Some called) = (called.place ≡ second) × CanStand plan paths called

-- paths that can be added to a set together: the calling path at the first place of an idle
-- member, and for a pair then the called path at the second place
pub record CanTake (plan : Tables) (paths : List Path) (group index : ℕ) (call : CallPaths) : Type 0 where
  pub member : Member
  pub listed : member_at plan group index ≡ Some member
  pub idle : is_member_idle paths member ≡ true
  pub first : call.calling.place ≡ member.first
  pub calling : CanStand plan paths call.calling
  pub called : CalledCanStand plan (with_path paths call.calling) member.second call.called

-- the second place of a pair is one of its places
pub second-has : (member : Member) (second : TrunkPlace) → member.second ≡ Some second → IsIn second (places member)
second-has member second paired = inr (subst (λ (o : Option TrunkPlace). IsIn second (option_to_list o)) (sym paired) (inl refl))

-- the set with the called path added, if there is one
orderly_called : (plan : Tables) (paths : List Path) (second : Option TrunkPlace) (called : Option Path) → CalledCanStand plan paths second called
    → IsOrderlySet plan paths → IsOrderlySet plan (with_chosen paths called)
orderly_called plan paths None None can orderly = orderly
orderly_called plan paths None (Some called) can orderly = absurd can
orderly_called plan paths (Some second) None can orderly = absurd can
orderly_called plan paths (Some second) (Some called) can orderly = orderly-with plan paths called can.1 orderly

-- adding these paths leaves an orderly set orderly
pub orderly-take : (plan : Tables) (paths : List Path) (group index : ℕ) (call : CallPaths) → CanTake plan paths group index call → IsOrderlySet plan paths
    → IsOrderlySet plan (with_call_paths paths call)
orderly-take plan paths group index call can orderly =
    orderly_called plan (with_path paths call.calling) can.member.second call.called can.called (orderly-with plan paths call.calling can.calling orderly)

length_called : (plan : Tables) (paths before : List Path) (second : Option TrunkPlace) (calling : Path) (called : Option Path)
    → CalledCanStand plan paths second called → length paths ≡ length before + 1
    → length (with_chosen paths called) ≡ length before + call_count (record { calling = calling; called = called })
length_called plan paths before None calling None can one = one
length_called plan paths before None calling (Some called) can one = absurd can
length_called plan paths before (Some second) calling None can one = absurd can
length_called plan paths before (Some second) calling (Some called) can one = omega (arith, length-stands plan paths called can.1, one)

-- and each of them makes the set longer
pub length-take : (plan : Tables) (paths : List Path) (group index : ℕ) (call : CallPaths) → CanTake plan paths group index call
    → length (with_call_paths paths call) ≡ length paths + call_count call
length-take plan paths group index call can =
    length_called plan (with_path paths call.calling) paths can.member.second call.calling call.called can.called
    (length-stands plan paths call.calling can.calling)

-- what is not idle stays so with a path added
busy_chosen : (has : Path → Bool) (paths : List Path) (called : Option Path) → is_idle has paths ≡ false → is_idle has (with_chosen paths called) ≡ false
busy_chosen has paths None busy = busy
busy_chosen has paths (Some called) busy = idle-with has paths called ∙ ap (λ b. b && not (has called)) busy

own_called : (plan : Tables) (paths : List Path) (second : Option TrunkPlace) (called : Option Path) → CalledCanStand plan paths second called
    → (place : TrunkPlace) → IsIn place (option_to_list second) → is_idle (has_place place) (with_chosen paths called) ≡ false
own_called plan paths None called can place within = absurd within
own_called plan paths (Some second) None can place within = absurd can
own_called plan paths (Some second) (Some called) can place (inl e) =
    idle-with_own (has_place place) paths called ((place_eq-exact called.place place).1 (can.0 ∙ sym e))
own_called plan paths (Some second) (Some called) can place (inr none) = absurd none

other_called : (plan : Tables) (paths : List Path) (second : Option TrunkPlace) (called : Option Path) → CalledCanStand plan paths second called
    → (place : TrunkPlace) → ((path : Path) → IsIn path.place (option_to_list second) → has_place place path ≡ false)
    → is_idle (has_place place) (with_chosen paths called) ≡ is_idle (has_place place) paths
other_called plan paths None None can place other = refl
other_called plan paths None (Some called) can place other = absurd can
other_called plan paths (Some second) None can place other = absurd can
other_called plan paths (Some second) (Some called) can place other = idle-with_other (has_place place) paths called (other called (inl can.0))

module _ (plan : Tables) (paths : List Path) (group index : ℕ) (call : CallPaths) (can : CanTake plan paths group index call) where
  -- with these paths added, none of the member's places is idle
  pub own-take : (place : TrunkPlace) → IsIn place (places can.member) → is_idle (has_place place) (with_call_paths paths call) ≡ false
  own-take place (inl e) =
      busy_chosen (has_place place) (with_path paths call.calling) call.called
      (idle-with_own (has_place place) paths call.calling ((place_eq-exact call.calling.place place).1 (can.first ∙ sym e)))
  own-take place (inr within) = own_called plan (with_path paths call.calling) can.member.second call.called can.called place within

  -- a path at one of the member's places is at no place of another member
  not_its_own : IsLawful plan → (number at : ℕ) (member : Member) → member_at plan number at ≡ Some member → (number ≡ group → at ≡ index → ⊥)
      → (place : TrunkPlace) → IsIn place (places member) → (path : Path) → IsIn path.place (places can.member) → (b : Bool) → has_place place path ≡ b
      → b ≡ false
  not_its_own laws number at member listed other place within path own false e = refl
  not_its_own laws number at member listed other place within path own true e =
      let same : path.place ≡ place = (place_eq-exact path.place place).0 e in
      let there : IsIn place (places can.member) = subst (λ (p : TrunkPlace). IsIn p (places can.member)) same own in
      let one = one_member plan laws number at group index member can.member place listed can.listed within there in
      absurd (other one.0 one.1)

  -- and the places of other members are as idle as before
  pub others-take : IsLawful plan → (number at : ℕ) (member : Member) → member_at plan number at ≡ Some member → (number ≡ group → at ≡ index → ⊥)
      → (place : TrunkPlace) → IsIn place (places member) → is_idle (has_place place) (with_call_paths paths call) ≡ is_idle (has_place place) paths
  others-take laws number at member listed other place within =
      other_called plan (with_path paths call.calling) can.member.second call.called can.called place
      (λ path own. not_its_own laws number at member listed other place within path (inr own) (has_place place path) refl)
      ∙ idle-with_other (has_place place) paths call.calling
      (not_its_own laws number at member listed other place within call.calling (inl can.first) (has_place place call.calling) refl)

  its_pair : (member : Member) → member ≡ can.member → HasBothOrNone (with_call_paths paths call) member
  its_pair member same second paired =
      let first_own : IsIn member.first (places can.member) = inl (ap (λ (m : Member). m.first) same) in
      let second_own : IsIn second (places can.member) = subst (λ (m : Member). IsIn second (places m)) same (second-has member second paired) in
      own-take member.first first_own ∙ sym (own-take second second_own)

  other_pair : IsLawful plan → (number at : ℕ) (member : Member) → member_at plan number at ≡ Some member → (number ≡ group → at ≡ index → ⊥)
      → HasBothOrNone paths member → HasBothOrNone (with_call_paths paths call) member
  other_pair laws number at member listed other whole second paired =
      others-take laws number at member listed other member.first (inl refl)
      ∙ whole second paired
      ∙ sym (others-take laws number at member listed other second (second-has member second paired))

  pairs_take : IsLawful plan → HasWholePairs plan paths → HasWholePairs plan (with_call_paths paths call)
  pairs_take laws whole number at member listed = of (number == group) (at == index) refl refl where
    others : (number ≡ group → at ≡ index → ⊥) → HasBothOrNone (with_call_paths paths call) member
    others other = other_pair laws number at member listed other (whole number at member listed)

    of : (b c : Bool) → (number == group) ≡ b → (at == index) ≡ c → HasBothOrNone (with_call_paths paths call) member
    of false c e f = others (λ same_group same_index. true≢false (sym (eq-eqb number group same_group) ∙ e))
    of true false e f = others (λ same_group same_index. true≢false (sym (eq-eqb at index same_index) ∙ f))
    of true true e f =
        let members : Some member ≡ Some can.member =
        sym listed ∙ ap (λ (g : ℕ). member_at plan g at) (eqb-true number group e) ∙ ap (member_at plan group) (eqb-true at index f) ∙ can.listed in
        its_pair member cc

  -- so adding them leaves a lawful set lawful
  pub lawful-take : IsLawful plan → IsLawfulSet plan paths → IsLawfulSet plan (with_call_paths paths call)
  lawful-take laws lawful = record { orderly = orderly-take plan paths group index call can lawful.orderly; pairs = pairs_take laws lawful.pairs }
