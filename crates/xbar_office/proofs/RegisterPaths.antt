-- the path from a line to its register, and the set without that path
use Rattle.std.proofs.Common.{◌≡◌, ℕ, ◌==◌, Bool, true, false, List, inl, refl, sym, ◌∙◌, ap, subst, Option, Some, None, is_some, option_and_then}
use Rattle.std.proofs.Common.{if◌then◌else◌, eqb-true, true≢false}
use Rattle.{std.specs.Option.option_map_or, xbar_equip.specs.{Among.IsIn, Len.Line, Ten.TrunkPlace, Paths.{has_line, has_place, is_idle, without_path}}}
use Rattle.{xbar_equip.{specs.declared.path.Path.Path, proofs.{Lists.found_passes, PathTests.{line_eq-exact, place_eq-exact}}}, xbar_plan.specs.Group.places}
use Rattle.xbar_plan.specs.{Tables.{Tables, member_at, member_place, register_group}, Lawful.IsLawful, declared.group.{Member.Member, MemberPlace.MemberPlace}}
use Rattle.xbar_plan.proofs.{LawfulPlans.{one_member, stands_at-has}, MemberPlaces.member_place-member}
use Rattle.xbar_office.specs.{LawfulSet.{IsLawfulSet, HasWholePairs}, Standing.{path_of, ends_at_register, if_register, register_path}}
use Rattle.xbar_office.proofs.{DialJobs.single_register, RemovedPaths.{idle-without_other, idle-without_own, orderly-without}, TakenMembers.second-has}

-- the member at the place of a register's path
pub record IsRegisters (plan : Tables) (path : Path) : Type 0 where
  pub found : MemberPlace
  pub here : member_place plan path.place ≡ Some found
  pub group : found.group ≡ register_group plan

pub ends_at_register-is : (plan : Tables) (path : Path) → ends_at_register plan path ≡ true → IsRegisters plan path
ends_at_register-is plan path e = of (member_place plan path.place) refl e where
  of : (o : Option MemberPlace) → member_place plan path.place ≡ o → option_map_or (λ found. found.group == register_group plan) o false ≡ true
      → IsRegisters plan path
  of None here e = absurd (true≢false (sym e))
  of (Some found) here e = record { found = found; here = here; group = eqb-true found.group (register_group plan) e }

-- a path of the set, of this line, that ends at a register
pub record IsRegisterPath (plan : Tables) (paths : List Path) (line : Line) (path : Path) : Type 0 where
  pub within : IsIn path paths
  pub line_is : path.line ≡ line
  pub ends : ends_at_register plan path ≡ true

pub register_path-is : (plan : Tables) (paths : List Path) (line : Line) (own : Path) → register_path plan paths line ≡ Some own
    → IsRegisterPath plan paths line own
register_path-is plan paths line own e = of (path_of paths line) refl e where
  ends : (path : Path) → path_of paths line ≡ Some path → (b : Bool) → ends_at_register plan path ≡ b → (if b then Some path else None) ≡ Some own
      → IsRegisterPath plan paths line own
  ends path found true is e =
      let same : path ≡ own = cc in
      let passes = found_passes (has_line line) paths path found in
      subst (λ (p : Path). IsRegisterPath plan paths line p) same (record { within = passes.0; line_is = (line_eq-exact path.line line).0 passes.1; ends = is })
  ends path found false is e = cc

  of : (o : Option Path) → path_of paths line ≡ o → option_and_then (if_register plan) o ≡ Some own → IsRegisterPath plan paths line own
  of None found e = cc
  of (Some path) found e = ends path found (ends_at_register plan path) refl e

module _ (plan : Tables) (paths : List Path) (own : Path) (laws : IsLawful plan) (is : IsRegisters plan own) where
  -- no pair has the register's place
  not_of_pair : (number at : ℕ) (member : Member) (second place : TrunkPlace) → member_at plan number at ≡ Some member → member.second ≡ Some second
      → IsIn place (places member) → (b : Bool) → has_place place own ≡ b → b ≡ false
  not_of_pair number at member second place listed paired within false e = refl
  not_of_pair number at member second place listed paired within true e =
      let named = member_place-member plan own.place is.found is.here in
      let there : IsIn own.place (places member) = subst (λ (p : TrunkPlace). IsIn p (places member)) (sym ((place_eq-exact own.place place).0 e)) within in
      let one =
      one_member plan laws number at is.found.group is.found.index member named.member own.place listed named.here there
      (stands_at-has named.member own.place named.stands) in
      let group : number ≡ register_group plan = one.0 ∙ is.group in
      let single : is_some member.second ≡ false = single_register plan laws at member (ap (λ (g : ℕ). member_at plan g at) (sym group) ∙ listed) in
      sym (ap (λ (o : Option TrunkPlace). is_some o) paired) ∙ single

  -- so without it pairs have both paths or none
  pairs_without : HasWholePairs plan paths → HasWholePairs plan (without_path paths own)
  pairs_without whole number at member listed second paired =
      idle-without_other (has_place member.first) paths own
      (not_of_pair number at member second member.first listed paired (inl refl) (has_place member.first own) refl)
      ∙ whole number at member listed second paired
      ∙ sym (idle-without_other (has_place second) paths own
      (not_of_pair number at member second second listed paired (second-has member second paired) (has_place second own) refl))

  pub lawful-without_register : IsLawfulSet plan paths → IsLawfulSet plan (without_path paths own)
  lawful-without_register lawful = record { orderly = orderly-without plan paths own lawful.orderly; pairs = pairs_without lawful.pairs }

-- the line of a path that is removed is idle
pub line-without : (plan : Tables) (paths : List Path) (own : Path) → IsLawfulSet plan paths → IsIn own paths
    → is_idle (has_line own.line) (without_path paths own) ≡ true
line-without plan paths own lawful within =
    idle-without_own (has_line own.line) paths own lawful.orderly.set
    (λ q there has. lawful.orderly.apart q own there within (inl ((line_eq-exact q.line own.line).0 has)))
