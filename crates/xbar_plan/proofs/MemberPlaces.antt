use Rattle.std.proofs.Common.{◌≡◌, ℕ, zero, suc, ◌<◌, Bool, true, false, List, [], ◌∷◌, refl, sym, ◌∙◌, ap, subst, ◌||◌, Option, Some, None, IfSome, IsSomeAnd}
use Rattle.std.proofs.Common.{slice_get, position, option_map, option_and_then}
use Rattle.{std.specs.List.list_any, xbar_equip.specs.Ten.{TrunkPlace, IsTrunkPlace}, xbar_plan.specs.Group.{TrunkGroup, stands_at, other_place}}
use Rattle.xbar_plan.specs.Tables.{Tables, member_at, first_with, has_member_at, member_within, member_place, IsNoMembers, IsOfMember, IsMemberPlace}
use Rattle.xbar_plan.specs.{Lawful.IsLawful, declared.group.{Member.Member, MemberPlace.MemberPlace}}
use Rattle.xbar_plan.proofs.{Lists.{position-none, position-some}, LawfulPlans.{member-numbers, place_at-range, stands_at-has}, OtherPlaces.others}

-- if no item passes, nothing is found
pub first_with-none : {X : Type 0} (test : X → Bool) (xs : List X) → position test xs ≡ None → first_with test xs ≡ None
first_with-none {X} test xs e = ap (option_and_then (λ number. option_map {U = ℕ × X} (λ item. (number, item)) (slice_get xs number))) e

-- what is found is an item that passes
pub record IsFirst {X : Type 0} (test : X → Bool) (xs : List X) (n : ℕ) (x : X) : Type 0 where
  pub here : slice_get xs n ≡ Some x
  pub passes : test x ≡ true

pub first_with-found : {X : Type 0} (test : X → Bool) (xs : List X) (n : ℕ) (x : X) → first_with test xs ≡ Some (n, x) → IsFirst test xs n x
first_with-found {X} test xs n x e = of (position test xs) refl e where
  found : (m : ℕ) (o : Option X) → slice_get xs m ≡ o → IsSomeAnd o (λ y. test y ≡ true) → option_map {U = ℕ × X} (λ item. (m, item)) o ≡ Some (n, x)
      → IsFirst test xs n x
  found m None is passes e = absurd passes
  found m (Some y) is passes e =
      let number : m ≡ n = ap (λ (o : Option (ℕ × X)). first_of o) e in
      let item : y ≡ x = ap (λ (o : Option (ℕ × X)). second_of o) e in
      record { here = ap (slice_get xs) (sym number) ∙ is ∙ ap (λ (z : X). Some z) item; passes = ap test (sym item) ∙ passes } where
        first_of : Option (ℕ × X) → ℕ
        first_of None = m
        first_of (Some p) = p.0

        second_of : Option (ℕ × X) → X
        second_of None = y
        second_of (Some p) = p.1

  of : (o : Option ℕ) → position test xs ≡ o → option_and_then (λ number. option_map {U = ℕ × X} (λ item. (number, item)) (slice_get xs number)) o ≡ Some (n, x)
      → IsFirst test xs n x
  of None at e = cc
  of (Some m) at e = found m (slice_get xs m) refl (position-some test m xs at) e

-- if nothing is found, no item passes
pub first_with-fails : {X : Type 0} (test : X → Bool) (xs : List X) → first_with test xs ≡ None → (i : ℕ) → IfSome (slice_get xs i) (λ x. test x ≡ false)
first_with-fails {X} test xs e = of (position test xs) refl e where
  found : (m : ℕ) (o : Option X) → IsSomeAnd o (λ y. test y ≡ true) → option_map {U = ℕ × X} (λ item. (m, item)) o ≡ None → (i : ℕ)
      → IfSome (slice_get xs i) (λ x. test x ≡ false)
  found m None passes e = absurd passes
  found m (Some y) passes e = cc

  of : (o : Option ℕ) → position test xs ≡ o → option_and_then (λ number. option_map {U = ℕ × X} (λ item. (number, item)) (slice_get xs number)) o ≡ None
      → (i : ℕ) → IfSome (slice_get xs i) (λ x. test x ≡ false)
  of None at e = position-none test xs at
  of (Some m) at e = found m (slice_get xs m) (position-some test m xs at) e

pub neither : (a b : Bool) → (a || b) ≡ false → (a ≡ false) × (b ≡ false)
neither true b e = cc
neither false b e = (refl, e)

any_fails : {X : Type 0} (test : X → Bool) (xs : List X) → list_any test xs ≡ false → (i : ℕ) → IfSome (slice_get xs i) (λ x. test x ≡ false)
any_fails test [] e i = tt
any_fails test (x ∷ xs) e zero = (neither (test x) (list_any test xs) e).0
any_fails test (x ∷ xs) e (suc i) = any_fails test xs (neither (test x) (list_any test xs) e).1 i

pub none_of_any : {X : Type 0} (test : X → Bool) (xs : List X) → ((i : ℕ) → IfSome (slice_get xs i) (λ x. test x ≡ false)) → list_any test xs ≡ true → ⊥
none_of_any test [] none e = cc
none_of_any test (x ∷ xs) none e = none_of_any test xs (λ i. none (suc i)) (ap (λ b. b || list_any test xs) (sym (none zero)) ∙ e)

-- if no group has a member at the place, no member is there
no_members : (plan : Tables) (place : TrunkPlace) → ((i : ℕ) → IfSome (slice_get plan.groups i) (λ group. has_member_at place group ≡ false))
    → IsNoMembers plan place
no_members plan place none number index = of (slice_get plan.groups number) (none number) where
  of : (o : Option TrunkGroup) → IfSome o (λ group. has_member_at place group ≡ false)
      → IfSome (option_and_then (λ group. slice_get group.members index) o) (λ member. stands_at member place ≡ false)
  of None h = tt
  of (Some group) h = any_fails (λ own. stands_at own place) group.members h index

is_of_member : (plan : Tables) (place : TrunkPlace) (number index : ℕ) (group : TrunkGroup) (member : Member) → slice_get plan.groups number ≡ Some group
    → slice_get group.members index ≡ Some member → stands_at member place ≡ true
    → IsOfMember plan place (record { group = number; index = index; other = other_place member place })
is_of_member plan place number index group member here there stands =
    let at : member_at plan number index ≡ Some member = ap (option_and_then (λ g. slice_get g.members index)) here ∙ there in
    subst (λ (o : Option Member). IsSomeAnd o (λ own. (stands_at own place ≡ true) × (other_place member place ≡ other_place own place))) (sym at)
    (stands, refl)

-- the answer is a member at the place, or no member is there
pub member_place-fits : (plan : Tables) (place : TrunkPlace) → IsMemberPlace plan place (member_place plan place)
member_place-fits plan place = of (first_with (has_member_at place) plan.groups) refl where
  within : (number : ℕ) (group : TrunkGroup) → IsFirst (has_member_at place) plan.groups number group → (o : Option (ℕ × Member))
      → first_with (λ own. stands_at own place) group.members ≡ o
      → IsMemberPlace plan place (option_map (λ found. record { group = number; index = found.0; other = other_place found.1 place }) o)
  within number group is None e =
      absurd (none_of_any (λ own. stands_at own place) group.members (first_with-fails (λ own. stands_at own place) group.members e) is.passes)
  within number group is (Some (index, member)) e =
      let found = first_with-found (λ own. stands_at own place) group.members index member e in
      is_of_member plan place number index group member is.here found.here found.passes

  of : (o : Option (ℕ × TrunkGroup)) → first_with (has_member_at place) plan.groups ≡ o
      → IsMemberPlace plan place (option_and_then (λ found. member_within found.0 found.1 place) o)
  of None e = no_members plan place (first_with-fails (has_member_at place) plan.groups e)
  of (Some (number, group)) e =
      within number group (first_with-found (has_member_at place) plan.groups number group e) (first_with (λ own. stands_at own place) group.members) refl

-- the member that an answer names
pub record IsNamed (plan : Tables) (place : TrunkPlace) (found : MemberPlace) : Type 0 where
  pub member : Member
  pub here : member_at plan found.group found.index ≡ Some member
  pub stands : stands_at member place ≡ true
  pub other : found.other ≡ other_place member place

pub member_place-member : (plan : Tables) (place : TrunkPlace) (found : MemberPlace) → member_place plan place ≡ Some found → IsNamed plan place found
member_place-member plan place found e =
    of (member_at plan found.group found.index) refl (subst (λ (o : Option MemberPlace). IsMemberPlace plan place o) e (member_place-fits plan place)) where
      of : (o : Option Member) → member_at plan found.group found.index ≡ o
          → IsSomeAnd o (λ member. (stands_at member place ≡ true) × (found.other ≡ other_place member place)) → IsNamed plan place found
      of None here h = absurd h
      of (Some member) here h = record { member = member; here = here; stands = h.0; other = h.1 }

-- and its numbers and places are in range
pub member_place-numbers : (plan : Tables) → IsLawful plan → (place : TrunkPlace) (found : MemberPlace) → member_place plan place ≡ Some found
    → (found.group < 16) × (found.index < 40)
member_place-numbers plan lawful place found e =
    let named = member_place-member plan place found e in
    member-numbers plan lawful found.group found.index named.member named.here

-- the same of the member that is found, if one is
pub member_found : (plan : Tables) → IsLawful plan → (place : TrunkPlace) (found : Option MemberPlace) → found ≡ member_place plan place
    → IfSome found (λ member. (member.group < 16) × (member.index < 40))
member_found plan lawful place None is = tt
member_found plan lawful place (Some member) is = member_place-numbers plan lawful place member (sym is)

pub member_place-place : (plan : Tables) → IsLawful plan → (place : TrunkPlace) (found : MemberPlace) → member_place plan place ≡ Some found
    → IsTrunkPlace place
member_place-place plan lawful place found e =
    let named = member_place-member plan place found e in
    place_at-range plan lawful found.group found.index named.member place named.here (stands_at-has named.member place named.stands)

pub member_place-other : (plan : Tables) → IsLawful plan → (place other : TrunkPlace) (found : MemberPlace) → member_place plan place ≡ Some found
    → found.other ≡ Some other → IsTrunkPlace other
member_place-other plan lawful place other found e beside =
    let named = member_place-member plan place found e in
    let seen = others plan lawful found.group found.index named.member place other named.here named.stands (sym named.other ∙ beside) in
    place_at-range plan lawful found.group found.index named.member other named.here (stands_at-has named.member other seen.stands)
