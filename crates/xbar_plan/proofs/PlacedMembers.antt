use Rattle.std.proofs.Common.{◌≡◌, ◌≢◌, ℕ, ◌+◌, ◌<◌, ◌≤◌, Bool, true, false, cond, List, [], ◌∷◌, ◌++◌, length, get_or, set, take, refl, sym, ◌∙◌, ap, subst}
use Rattle.std.proofs.Common.{arith, Option, Some, None, is_some, position, slice_get, option_map, option_and_then, ◌||◌, if◌then◌else◌, take_all}
use Rattle.std.proofs.Common.{length-take-le, length-append, length-set, get_or-set_same, get_or-set_other}
use Rattle.std.{specs.{Option.option_or, List.{list_any, position_from}}, proofs.{Math.Seq.get_or-append_seam, lemmas.Iterator.Adapters.position_from-zero}}
use Rattle.std.proofs.lemmas.{List.{take_more, get_or_append_left, Quantifiers.position-Some}, Option.slice_get-get_or}
use Rattle.xbar_equip.{specs.Ten.{TrunkPlace, IsTrunkPlace, place_eq}, proofs.PathTests.place_eq-exact}
use Rattle.xbar_plan.specs.{Group.{TrunkGroup, stands_at, other_place}, Tables.{first_with, has_member_at, member_within}, Numbered.place_number}
use Rattle.xbar_plan.specs.{Directory.{member_here, first_member, ArePlaced}, declared.group.{Member.Member, MemberPlace.MemberPlace}}
use Rattle.xbar_plan.proofs.{Numbered.one_place, MemberPlaces.{first_with-none, first_with-found, first_with-fails, neither, none_of_any}}
use Rattle.xbar_plan.proofs.FirstPlaces.{here, position-last, or-none, no_item, some_item}

-- ---- the first of two answers

or-or : {X : Type 0} (a b c : Option X) → option_or (option_or a b) c ≡ option_or a (option_or b c)
or-or None b c = refl
or-or (Some x) b c = refl

map-or : {X Y : Type 0} (f : X → Y) (a b : Option X) → option_map f (option_or a b) ≡ option_or (option_map f a) (option_map f b)
map-or f None b = refl
map-or f (Some x) b = refl

-- ---- one place

-- a member is entered at a place that has none
pub put-free : (before : List (Option MemberPlace)) (place : TrunkPlace) (found : MemberPlace) → length before ≡ 1000 → IsTrunkPlace place
    → is_some (get_or before (place_number place) None) ≡ false
    → ArePlaced before (λ other. if place_eq place other then Some found else None) (set before (place_number place) (Some found))
put-free before place found size fits free = record { size = length-set before (place_number place) (Some found) ∙ size; first = at } where
  within : place_number place < length before
  within =
      let frame = fits.frame in
      let switch = fits.switch in
      let appearance = fits.appearance in
      omega (arith, size, frame, switch, appearance)

  at : (other : TrunkPlace) → IsTrunkPlace other
      → get_or (set before (place_number place) (Some found)) (place_number other) None
      ≡ option_or (get_or before (place_number other) None) (if place_eq place other then Some found else None)
  at other in_range = of (place_eq place other) refl where
    of : (b : Bool) → place_eq place other ≡ b
        → get_or (set before (place_number place) (Some found)) (place_number other) None
        ≡ option_or (get_or before (place_number other) None) (if b then Some found else None)
    of true e =
        let is : place ≡ other = (place_eq-exact place other).0 e in
        subst (λ (p : TrunkPlace). get_or (set before (place_number place) (Some found)) (place_number p) None
        ≡ option_or (get_or before (place_number p) None) (Some found)) is
        (get_or-set_same before (place_number place) (Some found) None within
        ∙ sym (ap (λ (o : Option MemberPlace). option_or o (Some found)) (no_item (get_or before (place_number place) None) free)))
    of false e =
        let apart : place_number other ≢ place_number place = λ same. let no : true ≡ false =
        sym ((place_eq-exact place other).1 (one_place place other fits in_range (sym same))) ∙ e in cc in
        get_or-set_other before (place_number place) (place_number other) (Some found) None apart ∙ sym (or-none (get_or before (place_number other) None))

-- and a place that has one keeps it
pub put-taken : (before : List (Option MemberPlace)) (place : TrunkPlace) (found : MemberPlace) → length before ≡ 1000
    → is_some (get_or before (place_number place) None) ≡ true → ArePlaced before (λ other. if place_eq place other then Some found else None) before
put-taken before place found size taken = record { size = size; first = λ other in_range. at other } where
  at : (other : TrunkPlace)
      → get_or before (place_number other) None ≡ option_or (get_or before (place_number other) None) (if place_eq place other then Some found else None)
  at other = of (place_eq place other) refl where
    of : (b : Bool) → place_eq place other ≡ b
        → get_or before (place_number other) None ≡ option_or (get_or before (place_number other) None) (if b then Some found else None)
    of true e =
        let is : place ≡ other = (place_eq-exact place other).0 e in
        let there = some_item (get_or before (place_number place) None) taken in
        subst (λ (p : TrunkPlace). get_or before (place_number p) None ≡ option_or (get_or before (place_number p) None) (Some found)) is
        (there.1 ∙ sym (ap (λ (o : Option MemberPlace). option_or o (Some found)) there.1))
    of false e = sym (or-none (get_or before (place_number other) None))

-- ---- one member

-- entering in two steps
then_placed : (before between after : List (Option MemberPlace)) (one two both : TrunkPlace → Option MemberPlace) → ArePlaced before one between
    → ArePlaced between two after → ((place : TrunkPlace) → option_or (one place) (two place) ≡ both place) → ArePlaced before both after
then_placed before between after one two both first second whole = record {
  size = second.size;
  first = λ place in_range.
      second.first place in_range ∙ ap (λ (o : Option MemberPlace). option_or o (two place)) (first.first place in_range)
      ∙ or-or (get_or before (place_number place) None) (one place) (two place) ∙ ap (option_or (get_or before (place_number place) None)) (whole place);
}

-- the member, if the test holds
abbrev pub seen : Bool → MemberPlace → Option MemberPlace
seen b found = if b then Some found else None

single_here : (number index : ℕ) (first place : TrunkPlace)
    → seen (place_eq first place) (record { group = number; index = index; other = None })
    ≡ member_here number index (record { first = first; second = None }) place
single_here number index first place = of (place_eq first place) where
  of : (b : Bool)
      → seen b (record { group = number; index = index; other = None })
      ≡ seen (b || false) (record { group = number; index = index; other = if b then None else Some first })
  of true = refl
  of false = refl

pair_here : (number index : ℕ) (first second place : TrunkPlace)
    → option_or (seen (place_eq first place) (record { group = number; index = index; other = Some second }))
    (seen (place_eq second place) (record { group = number; index = index; other = Some first }))
    ≡ member_here number index (record { first = first; second = Some second }) place
pair_here number index first second place = of (place_eq first place) (place_eq second place) where
  of : (a b : Bool)
      → option_or (seen a (record { group = number; index = index; other = Some second }))
      (seen b (record { group = number; index = index; other = Some first }))
      ≡ seen (a || (b || false)) (record { group = number; index = index; other = if a then Some second else Some first })
  of true b = refl
  of false true = refl
  of false false = refl

-- a member with one place
pub put-single : (before after : List (Option MemberPlace)) (number index : ℕ) (member : Member) → member.second ≡ None
    → ArePlaced before (λ other. seen (place_eq member.first other) (record { group = number; index = index; other = member.second })) after
    → ArePlaced before (member_here number index member) after
put-single before after number index member e =
    subst (λ (s : Option TrunkPlace). ArePlaced before (λ other. seen (place_eq member.first other) (record { group = number; index = index; other = s })) after
    → ArePlaced before (member_here number index (record { first = member.first; second = s })) after)
    (sym e) single where
      single : ArePlaced before (λ other. seen (place_eq member.first other) (record { group = number; index = index; other = None })) after
          → ArePlaced before (member_here number index (record { first = member.first; second = None })) after
      single placed = record {
        size = placed.size;
        first =
            λ place in_range. placed.first place in_range
            ∙ ap (option_or (get_or before (place_number place) None)) (single_here number index member.first place);
      }

-- a member with two
pub put-pair : (before between after : List (Option MemberPlace)) (number index : ℕ) (member : Member) (second : TrunkPlace) → member.second ≡ Some second
    → ArePlaced before (λ other. seen (place_eq member.first other) (record { group = number; index = index; other = member.second })) between
    → ArePlaced between (λ other. seen (place_eq second other) (record { group = number; index = index; other = Some member.first })) after
    → ArePlaced before (member_here number index member) after
put-pair before between after number index member second e =
    subst (λ (s : Option TrunkPlace). ArePlaced before (λ other. seen (place_eq member.first other) (record { group = number; index = index; other = s }))
    between → ArePlaced between (λ other. seen (place_eq second other) (record { group = number; index = index; other = Some member.first })) after
    → ArePlaced before (member_here number index (record { first = member.first; second = s })) after)
    (sym e) pair where
      pair : ArePlaced before (λ other. seen (place_eq member.first other) (record { group = number; index = index; other = Some second })) between
          → ArePlaced between (λ other. seen (place_eq second other) (record { group = number; index = index; other = Some member.first })) after
          → ArePlaced before (member_here number index (record { first = member.first; second = Some second })) after
      pair one two =
          then_placed before between after (λ other. seen (place_eq member.first other) (record { group = number; index = index; other = Some second }))
          (λ other. seen (place_eq second other) (record { group = number; index = index; other = Some member.first }))
          (member_here number index (record { first = member.first; second = Some second })) one two (pair_here number index member.first second)

-- ---- the members of a group

-- the item at the index found
abbrev at_found : {X : Type 0} → List X → Option ℕ → Option (ℕ × X)
at_found {X} xs o = option_and_then (λ number. option_map {U = ℕ × X} (λ item. (number, item)) (slice_get xs number)) o

-- the first that passes, of a list with one more item at its end
first_with-last : {X : Type 0} (test : X → Bool) (xs : List X) (x : X)
    → first_with test (xs ++ x ∷ []) ≡ option_or (first_with test xs) (if test x then Some (length xs, x) else None)
first_with-last {X} test xs x = ap (at_found (xs ++ x ∷ [])) (position-last test xs x) ∙ of (position test xs) refl (test x) where
  of : (o : Option ℕ) → position test xs ≡ o → (b : Bool)
      → at_found (xs ++ x ∷ []) (option_or o (here b (length xs))) ≡ option_or (at_found xs o) (if b then Some (length xs, x) else None)
  of None e true =
      let size = length-append xs (x ∷ []) in
      let last : slice_get (xs ++ x ∷ []) (length xs) ≡ Some x =
      slice_get-get_or (xs ++ x ∷ []) (length xs) x (omega (arith, size)) ∙ ap Some (get_or-append_seam xs x [] x) in
      ap (option_map {U = ℕ × X} (λ item. (length xs, item))) last
  of None e false = refl
  of (Some i) e b =
      let within = (position-Some test xs i x e).0 in
      let there : slice_get xs i ≡ Some (get_or xs i x) = slice_get-get_or xs i x within in
      let size = length-append xs (x ∷ []) in
      let front : slice_get (xs ++ x ∷ []) i ≡ Some (get_or xs i x) =
      slice_get-get_or (xs ++ x ∷ []) i x (omega (arith, size, within)) ∙ ap Some (get_or_append_left xs (x ∷ []) x i within) in
      ap (option_map {U = ℕ × X} (λ item. (i, item))) front
      ∙ sym (ap (λ (o : Option X). option_or (option_map {U = ℕ × X} (λ item. (i, item)) o) (if b then Some (length xs, x) else None)) there)

within-last : (number : ℕ) (members : List Member) (member : Member) (place : TrunkPlace)
    → first_member number (members ++ member ∷ []) place ≡ option_or (first_member number members place) (member_here number (length members) member place)
within-last number members member place =
    ap (option_map {U = MemberPlace} (λ found. record { group = number; index = found.0; other = other_place found.1 place }))
    (first_with-last (λ own. stands_at own place) members member)
    ∙ map-or {Y = MemberPlace} (λ found. record { group = number; index = found.0; other = other_place found.1 place })
    (first_with (λ own. stands_at own place) members) (if stands_at member place then Some (length members, member) else None)
    ∙ ap (option_or (first_member number members place)) (of (stands_at member place)) where
      of : (b : Bool)
          → option_map {T = ℕ × Member} {U = MemberPlace} (λ found. record { group = number; index = found.0; other = other_place found.1 place })
          (if b then Some (length members, member) else None)
          ≡ (if b then Some (record { group = number; index = length members; other = other_place member place }) else None)
      of true = refl
      of false = refl

-- no member yet
pub no_members-placed : (before : List (Option MemberPlace)) (number : ℕ) → length before ≡ 1000 → ArePlaced before (first_member number []) before
no_members-placed before number size = record { size = size; first = λ place in_range. sym (or-none (get_or before (place_number place) None)) }

-- one member more
pub more_members-placed : (before between after : List (Option MemberPlace)) (number i : ℕ) (members : List Member) (member : Member) → i < length members
    → member ≡ get_or members i member → ArePlaced before (first_member number (take i members)) between → ArePlaced between (member_here number i member) after
    → ArePlaced before (first_member number (take (i + 1) members)) after
more_members-placed before between after number i members member within read one two =
    then_placed before between after (first_member number (take i members)) (member_here number i member) (first_member number (take (i + 1) members)) one two
    whole where
      whole : (place : TrunkPlace)
          → option_or (first_member number (take i members) place) (member_here number i member place) ≡ first_member number (take (i + 1) members) place
      whole place =
          let size : length (take i members) ≡ i = length-take-le i members (omega (arith, within)) in
          let more : take (i + 1) members ≡ take i members ++ member ∷ [] =
          take_more members i member within ∙ ap (λ (m : Member). take i members ++ m ∷ []) (sym read) in
          sym (ap (λ (ms : List Member). first_member number ms place) more ∙ within-last number (take i members) member place
          ∙ ap (λ (n : ℕ). option_or (first_member number (take i members) place) (member_here number n member place)) size)

-- ---- the groups

-- the first member of these groups at a place
abbrev pub among_groups : List TrunkGroup → TrunkPlace → Option MemberPlace
among_groups groups place =
    option_and_then (λ found. member_within found.0 found.1 place) (first_with (has_member_at place) groups)

from-none : {X : Type 0} (p : X → Bool) (i : ℕ) (xs : List X) → list_any p xs ≡ false → position_from p i xs ≡ None
from-none p i [] e = refl
from-none p i (x ∷ xs) e =
    let parts = neither (p x) (list_any p xs) e in
    ap (λ (b : Bool). cond b (Some i) (position_from p (i + 1) xs)) parts.0 ∙ from-none p (i + 1) xs parts.1

-- a group has a first member at a place exactly if one of its members is there
within-none : (number : ℕ) (group : TrunkGroup) (place : TrunkPlace) → has_member_at place group ≡ false → member_within number group place ≡ None
within-none number group place e =
    ap (option_map {U = MemberPlace} (λ found. record { group = number; index = found.0; other = other_place found.1 place }))
    (first_with-none (λ own. stands_at own place) group.members
    (position_from-zero (λ own. stands_at own place) group.members ∙ from-none (λ own. stands_at own place) 0 group.members e))

within-some : (number : ℕ) (group : TrunkGroup) (place : TrunkPlace) (later : Option MemberPlace) → has_member_at place group ≡ true
    → member_within number group place ≡ option_or (member_within number group place) later
within-some number group place later e = of (first_with (λ own. stands_at own place) group.members) refl where
  of : (o : Option (ℕ × Member)) → first_with (λ own. stands_at own place) group.members ≡ o
      → option_map {U = MemberPlace} (λ found. record { group = number; index = found.0; other = other_place found.1 place }) o
      ≡ option_or (option_map {U = MemberPlace} (λ found. record { group = number; index = found.0; other = other_place found.1 place }) o) later
  of None none = absurd (none_of_any (λ own. stands_at own place) group.members (first_with-fails (λ own. stands_at own place) group.members none) e)
  of (Some found) is = refl

among-last : (groups : List TrunkGroup) (group : TrunkGroup) (place : TrunkPlace)
    → among_groups (groups ++ group ∷ []) place ≡ option_or (among_groups groups place) (member_within (length groups) group place)
among-last groups group place =
    ap (option_and_then {T = ℕ × TrunkGroup} (λ found. member_within found.0 found.1 place)) (first_with-last (has_member_at place) groups group)
    ∙ of (first_with (has_member_at place) groups) refl (has_member_at place group) refl where
      of : (o : Option (ℕ × TrunkGroup)) → first_with (has_member_at place) groups ≡ o → (b : Bool) → has_member_at place group ≡ b
          → option_and_then {T = ℕ × TrunkGroup} (λ found. member_within found.0 found.1 place) (option_or o (if b then Some (length groups, group) else None))
          ≡ option_or (option_and_then {T = ℕ × TrunkGroup} (λ found. member_within found.0 found.1 place) o) (member_within (length groups) group place)
      of None e true has = refl
      of None e false has = sym (within-none (length groups) group place has)
      of (Some (number, found)) e b has =
          within-some number found place (member_within (length groups) group place) (first_with-found (has_member_at place) groups number found e).passes

-- one group more
pub more_groups-placed : (before after : List (Option MemberPlace)) (i : ℕ) (groups : List TrunkGroup) (group : TrunkGroup) → i < length groups
    → group ≡ get_or groups i group → ((place : TrunkPlace) → IsTrunkPlace place → get_or before (place_number place) None ≡ among_groups (take i groups) place)
    → ArePlaced before (member_within i group) after → (place : TrunkPlace) → IsTrunkPlace place
    → get_or after (place_number place) None ≡ among_groups (take (i + 1) groups) place
more_groups-placed before after i groups group within read placed one place in_range =
    let size : length (take i groups) ≡ i = length-take-le i groups (omega (arith, within)) in
    let more : take (i + 1) groups ≡ take i groups ++ group ∷ [] =
    take_more groups i group within ∙ ap (λ (g : TrunkGroup). take i groups ++ g ∷ []) (sym read) in
    one.first place in_range ∙ ap (λ (o : Option MemberPlace). option_or o (member_within i group place)) (placed place in_range)
    ∙ sym (ap (λ (gs : List TrunkGroup). among_groups gs place) more ∙ among-last (take i groups) group place
    ∙ ap (λ (n : ℕ). option_or (among_groups (take i groups) place) (member_within n group place)) size)

-- the members of all groups
pub all_groups-placed : (members : List (Option MemberPlace)) (groups : List TrunkGroup) (i : ℕ) → length groups ≤ i → length members ≡ 1000
    → ((place : TrunkPlace) → IsTrunkPlace place → get_or members (place_number place) None ≡ among_groups (take i groups) place) → (place : TrunkPlace)
    → IsTrunkPlace place → slice_get members (place_number place) ≡ Some (among_groups groups place)
all_groups-placed members groups i past size placed place in_range =
    let frame = in_range.frame in
    let switch = in_range.switch in
    let appearance = in_range.appearance in
    let there : place_number place < length members = omega (arith, size, frame, switch, appearance) in
    slice_get-get_or members (place_number place) None there
    ∙ ap (λ (o : Option MemberPlace). Some o) (placed place in_range ∙ ap (λ (gs : List TrunkGroup). among_groups gs place) (take_all i groups past))
