use Rattle.std.proofs.Common.{◌≡◌, ℕ, zero, suc, ◌+◌, ◌-◌, ◌*◌, ◌/◌, ◌%◌, ◌<◌, Bool, true, false, List, [], ◌∷◌, ◌++◌, length, map, inl, refl, sym, ◌∙◌, ap}
use Rattle.std.proofs.Common.{subst, arith, Option, Some, None, option_to_list, flat_map, slice_get, IfSome, IsSomeAnd, position, unwrap_or, bytes_eq, ◌==◌}
use Rattle.std.proofs.Common.{◌&&◌, not, nat_le, nat_lt, is_some, if◌then◌else◌, ltb-true, lt-ltb, le-leb, eqb-true}
use Rattle.std.{specs.{List.list_all, Char.is_ascii_digit, Bool.beq}, proofs.lemmas.List.{Quantifiers.position-Some, Folds.list_all-append}}
use Rattle.{std.proofs.lemmas.Slice.Eq.bytes_eq-Decides, xbar_equip.specs.{Digits.digits, Len.{Line, is_line, line_text}}}
use Rattle.xbar_equip.{specs.{Ten.{TrunkPlace, is_trunk_place, place_text}, Link.{Link, is_link, link_text}, DirNo.dir_no_text}, proofs.Logic.{both, both_hold}}
use Rattle.{xbar_equip.proofs.Ranges.{place_in_range, line_in_range, link_in_range}, xbar_plan.specs.Group.{TrunkGroup, kind_eq, places, is_intra}}
use Rattle.xbar_plan.specs.{Tables.{Station, Route}, Lawful.{is_between, is_name, is_name_character, has_its_places, is_well_formed_group, are_distinct}}
use Rattle.xbar_plan.specs.{Lawful.{are_names_distinct, group_places}, declared.group.GroupKind.{GroupKind, TheVariants.{Register, Intra, Outgoing}}}
use Rattle.xbar_plan.{specs.declared.group.Member.Member, proofs.{Lists.{position-none, position-some}, Distinct.{item_passes, one_giver}}}
use Rattle.{xbar_plan.proofs.Repeats.bytes_eq-itself, xbar_plan_text.specs.Texts.{parts, onto_first, read_all, line_of, place_of, number_of, code_of, fault_of}}
use Rattle.xbar_plan_text.specs.Texts.{member_of, kind_of, name_of, group_of, station_of, CodeEntry, code_entry_of, group_number, route_of_entry}
use Rattle.xbar_plan_text.specs.Written.{spaced, kind_text, second_text, member_text, group_text, station_text, name_in, name_at, route_text}
use Rattle.xbar_plan_text.{specs.declared.read.version.Version.TheVariants.Two, proofs.WhoseText.{lines, places as place_texts, numbers, links, written_reads}}

-- ---- parts

-- a text with no space in it
abbrev pub is_one_part : List ℕ → Bool
is_one_part text = list_all (λ byte. not (byte == 32)) text

not_space : (b : ℕ) → not (b == 32) ≡ true → (b == 32) ≡ false
not_space b e = of (b == 32) e where
  of : (t : Bool) → not t ≡ true → t ≡ false
  of true e = cc
  of false e = refl

one_part : (text : List ℕ) → is_one_part text ≡ true → parts text ≡ text ∷ []
one_part [] e = refl
one_part (b ∷ text) e =
    let h = both (not (b == 32)) (is_one_part text) e in
    ap (λ (t : Bool). if t then [] ∷ parts text else onto_first b (parts text)) (not_space b h.0) ∙ ap (onto_first b) (one_part text h.1)

then_space : (text rest : List ℕ) → is_one_part text ≡ true → parts (text ++ 32 ∷ rest) ≡ text ∷ parts rest
then_space [] rest e = refl
then_space (b ∷ text) rest e =
    let h = both (not (b == 32)) (is_one_part text) e in
    ap (λ (t : Bool). if t then [] ∷ parts (text ++ 32 ∷ rest) else onto_first b (parts (text ++ 32 ∷ rest))) (not_space b h.0)
    ∙ ap (onto_first b) (then_space text rest h.1)

no_more : (text : List ℕ) → text ++ [] ≡ text
no_more [] = refl
no_more (b ∷ text) = ap (λ (t : List ℕ). b ∷ t) (no_more text)

-- the parts of a text that was joined by spaces
pub parts-spaced : (first : List ℕ) (others : List (List ℕ)) → is_one_part first ≡ true → list_all is_one_part others ≡ true
    → parts (spaced first others) ≡ first ∷ others
parts-spaced first [] e all = ap parts (no_more first) ∙ one_part first e
parts-spaced first (next ∷ others) e all =
    let h = both (is_one_part next) (list_all is_one_part others) all in
    then_space first (next ++ flat_map (λ part. 32 ∷ part) others) e ∙ ap (λ (ps : List (List ℕ)). first ∷ ps) (parts-spaced next others h.0 h.1)

-- ---- reading back

-- if each item can be read back from its text, so can all
pub all-read_back : {A : Type 0} (read : List ℕ → Option A) (write : A → List ℕ) (passes : A → Bool) → ((x : A) → passes x ≡ true → read (write x) ≡ Some x)
    → (xs : List A) → list_all passes xs ≡ true → read_all read (map write xs) ≡ Some xs
all-read_back read write passes back [] all = refl
all-read_back {A} read write passes back (x ∷ xs) all =
    let h = both (passes x) (list_all passes xs) all in
    rw (back x h.0, all-read_back read write passes back xs h.1)

all-one_part : {A : Type 0} (write : A → List ℕ) (passes : A → Bool) → ((x : A) → passes x ≡ true → is_one_part (write x) ≡ true) → (xs : List A)
    → list_all passes xs ≡ true → list_all is_one_part (map write xs) ≡ true
all-one_part write passes one [] all = refl
all-one_part write passes one (x ∷ xs) all =
    let h = both (passes x) (list_all passes xs) all in
    both_hold (is_one_part (write x)) (list_all is_one_part (map write xs)) (one x h.0) (all-one_part write passes one xs h.1)

digit_solid : (n : ℕ) → not (48 + n == 32) ≡ true
digit_solid n = of (48 + n == 32) refl where
  of : (t : Bool) → (48 + n == 32) ≡ t → not t ≡ true
  of true e = let same = eqb-true (48 + n) 32 e in absurd (omega (arith, same))
  of false e = refl

line-reads : (line : Line) → is_line line ≡ true → line_of (line_text line) ≡ Some line
line-reads line e = written_reads lines line (line_in_range line e)

pub link-reads : (link : Link) → is_link link ≡ true → fault_of (link_text link) ≡ Some link
link-reads link e = written_reads links link (link_in_range link e)

place-reads : (place : TrunkPlace) → is_trunk_place place ≡ true → place_of (place_text place) ≡ Some place
place-reads place e = written_reads place_texts place (place_in_range place e)

number-reads : (number : ℕ) → nat_lt number 10000 ≡ true → number_of (dir_no_text number) ≡ Some number
number-reads number e = written_reads numbers number (ltb-true number 10000 e)

line-solid : (line : Line) → is_one_part (line_text line) ≡ true
line-solid line = rw (digit_solid line.frame, digit_solid line.switch, digit_solid (line.x / 5), digit_solid (line.x % 5))

number-solid : (number : ℕ) → is_one_part (dir_no_text number) ≡ true
number-solid number = rw (digit_solid (number / 1000 % 10), digit_solid (number / 100 % 10), digit_solid (number / 10 % 10), digit_solid (number / 1 % 10))

-- a directory number is read back from its text, in version 2
pub station-reads : (station : Station) → nat_lt station.number 10000 ≡ true → list_all is_line station.lines ≡ true
    → station_of Two (station_text station) ≡ Some station
station-reads station number its =
    let solid = all-one_part line_text is_line (λ line e. line-solid line) station.lines its in
    rw (
      parts-spaced (dir_no_text station.number) (map line_text station.lines) (number-solid station.number) solid,
      number-reads station.number number,
      all-read_back line_of line_text is_line line-reads station.lines its,
    )

-- ---- groups

pub all_of_flat : {A B : Type 0} (p : B → Bool) (f : A → List B) (xs : List A) → list_all p (flat_map f xs) ≡ true → list_all (λ x. list_all p (f x)) xs ≡ true
all_of_flat p f [] e = refl
all_of_flat p f (x ∷ xs) e =
    let h = both (list_all p (f x)) (list_all p (flat_map f xs)) (sym (list_all-append p (f x) (flat_map f xs)) ∙ e) in
    both_hold (list_all p (f x)) (list_all (λ y. list_all p (f y)) xs) h.0 (all_of_flat p f xs h.1)

pub all_both : {A : Type 0} (p q : A → Bool) (xs : List A) → list_all p xs ≡ true → list_all q xs ≡ true → list_all (λ x. p x && q x) xs ≡ true
all_both p q [] e f = refl
all_both p q (x ∷ xs) e f =
    let h = both (p x) (list_all p xs) e in
    let k = both (q x) (list_all q xs) f in
    both_hold (p x && q x) (list_all (λ y. p y && q y) xs) (both_hold (p x) (q x) h.0 k.0) (all_both p q xs h.1 k.1)

-- a member that fits a kind of group, at places in range
abbrev fits : GroupKind → Member → Bool
fits kind own = beq (is_some own.second) (kind_eq kind Intra) && list_all is_trunk_place (places own)

first_of : (first : TrunkPlace) (second : Option TrunkPlace) → list_all is_trunk_place (first ∷ option_to_list second) ≡ true → is_trunk_place first ≡ true
first_of first second e = (both (is_trunk_place first) (list_all is_trunk_place (option_to_list second)) e).0

second_of : (first second : TrunkPlace) → list_all is_trunk_place (first ∷ second ∷ []) ≡ true → is_trunk_place second ≡ true
second_of first second e = (both (is_trunk_place second) true ((both (is_trunk_place first) (list_all is_trunk_place (second ∷ [])) e).1)).0

reads_as : (kind : GroupKind) (first : TrunkPlace) (second : Option TrunkPlace) → beq (is_some second) (kind_eq kind Intra) ≡ true
    → list_all is_trunk_place (first ∷ option_to_list second) ≡ true
    → member_of kind (place_text first ++ second_text second) ≡ Some (record { first = first; second = second })
reads_as Intra first None e h = cc
reads_as Intra first (Some second) e h = rw (place-reads first (first_of first (Some second) h), place-reads second (second_of first second h))
reads_as Register first None e h = rw (place-reads first (first_of first None h))
reads_as Register first (Some second) e h = cc
reads_as Outgoing first None e h = rw (place-reads first (first_of first None h))
reads_as Outgoing first (Some second) e h = cc

member-reads : (kind : GroupKind) (own : Member) → fits kind own ≡ true → member_of kind (member_text own) ≡ Some own
member-reads kind own e =
    let h = both (beq (is_some own.second) (kind_eq kind Intra)) (list_all is_trunk_place (places own)) e in
    reads_as kind own.first own.second h.0 h.1

member-solid : (first : TrunkPlace) (second : Option TrunkPlace) → is_one_part (place_text first ++ second_text second) ≡ true
member-solid first None = rw (digit_solid first.frame, digit_solid first.switch, digit_solid first.appearance)
member-solid first (Some second) =
    rw (
      digit_solid first.frame,
      digit_solid first.switch,
      digit_solid first.appearance,
      digit_solid second.frame,
      digit_solid second.switch,
      digit_solid second.appearance,
    )

kind-reads : (kind : GroupKind) → kind_of (kind_text kind) ≡ Some kind
kind-reads Register = refl
kind-reads Intra = refl
kind-reads Outgoing = refl

kind-solid : (kind : GroupKind) → is_one_part (kind_text kind) ≡ true
kind-solid Register = refl
kind-solid Intra = refl
kind-solid Outgoing = refl

character-solid : (c : ℕ) → is_name_character c ≡ true → not (c == 32) ≡ true
character-solid c e = of (c == 32) refl where
  of : (t : Bool) → (c == 32) ≡ t → not t ≡ true
  of true same = let no : false ≡ true = subst (λ (k : ℕ). is_name_character k ≡ true) (eqb-true c 32 same) e in cc
  of false same = refl

characters-solid : (name : List ℕ) → list_all is_name_character name ≡ true → is_one_part name ≡ true
characters-solid [] e = refl
characters-solid (c ∷ name) e =
    let h = both (is_name_character c) (list_all is_name_character name) e in
    both_hold (not (c == 32)) (is_one_part name) (character-solid c h.0) (characters-solid name h.1)

name-solid : (name : List ℕ) → is_name name ≡ true → is_one_part name ≡ true
name-solid name e = characters-solid name (both (is_between 1 8 (length name)) (list_all is_name_character name) e).1

name-reads : (name : List ℕ) → is_name name ≡ true → name_of name ≡ Some name
name-reads name e = ap (λ (b : Bool). if b then Some name else None) e

-- a group is read back from its text
pub group-reads : (group : TrunkGroup) → is_well_formed_group group ≡ true → list_all is_trunk_place (group_places group) ≡ true
    → group_of (group_text group) ≡ Some group
group-reads group formed range =
    let h = both (is_name group.name) (has_its_places group) formed in
    let members =
    all_both (λ (own : Member). beq (is_some own.second) (is_intra group)) (λ (own : Member). list_all is_trunk_place (places own)) group.members h.1
    (all_of_flat is_trunk_place places group.members range) in
    let solid = all-one_part member_text (fits group.kind) (λ own e. member-solid own.first own.second) group.members members in
    let others = both_hold (is_one_part (kind_text group.kind)) (list_all is_one_part (map member_text group.members)) (kind-solid group.kind) solid in
    rw (
      parts-spaced group.name (kind_text group.kind ∷ map member_text group.members) (name-solid group.name h.0) others,
      name-reads group.name h.0,
      kind-reads group.kind,
      all-read_back (member_of group.kind) member_text (fits group.kind) (member-reads group.kind) group.members members,
    )

-- ---- codes

digit-is : (n : ℕ) → n < 10 → is_ascii_digit (48 + n) ≡ true
digit-is n below = both_hold (nat_le 48 (48 + n)) (nat_le (48 + n) 57) (le-leb 48 (48 + n) (omega arith)) (le-leb (48 + n) 57 (omega (arith, below)))

code-reads : (code : ℕ) → nat_lt code 1000 ≡ true → code_of (digits 3 code) ≡ Some code
code-reads code e =
    let below = ltb-true code 1000 e in
    let a = digit-is (code / 100 % 10) (omega arith) in
    let b = digit-is (code / 10 % 10) (omega arith) in
    let c = digit-is (code / 1 % 10) (omega arith) in
    let value : 100 * (48 + code / 100 % 10 - 48) + 10 * (48 + code / 10 % 10 - 48) + (48 + code / 1 % 10 - 48) ≡ code = omega (arith, below) in
    rw (a, b, c) (ap (λ (n : ℕ). Some n) value)

names-read : (names : List (List ℕ)) → list_all is_name names ≡ true → read_all name_of names ≡ Some names
names-read [] e = refl
names-read (name ∷ names) e =
    let h = both (is_name name) (list_all is_name names) e in
    rw (name-reads name h.0, names-read names h.1)

names-solid : (names : List (List ℕ)) → list_all is_name names ≡ true → list_all is_one_part names ≡ true
names-solid [] e = refl
names-solid (name ∷ names) e =
    let h = both (is_name name) (list_all is_name names) e in
    both_hold (is_one_part name) (list_all is_one_part names) (name-solid name h.0) (names-solid names h.1)

-- the group with a number that exists
there : (groups : List TrunkGroup) (number : ℕ) → nat_lt number (length groups) ≡ true → (group : TrunkGroup) × (slice_get groups number ≡ Some group)
there groups number e = of (slice_get groups number) refl where
  of : (o : Option TrunkGroup) → slice_get groups number ≡ o → (group : TrunkGroup) × (slice_get groups number ≡ Some group)
  of (Some group) is = (group, is)
  of None is = absurd (missing groups number (ltb-true number (length groups) e) is) where
    missing : (gs : List TrunkGroup) (n : ℕ) → n < length gs → slice_get gs n ≡ None → ⊥
    missing [] n less is = omega (arith, less)
    missing (g ∷ gs) zero less is = cc
    missing (g ∷ gs) (suc n) less is = missing gs n (omega (arith, less)) is

named : (groups : List TrunkGroup) (number : ℕ) (group : TrunkGroup) → slice_get groups number ≡ Some group → name_at groups number ≡ group.name
named groups number group e = ap name_in e

names_at : (groups : List TrunkGroup) → list_all is_well_formed_group groups ≡ true → (numbers : List ℕ)
    → list_all (λ n. nat_lt n (length groups)) numbers ≡ true → list_all is_name (map (name_at groups) numbers) ≡ true
names_at groups formed [] all = refl
names_at groups formed (n ∷ ns) all =
    let h = both (nat_lt n (length groups)) (list_all (λ n. nat_lt n (length groups)) ns) all in
    let group = there groups n h.0 in
    let well = item_passes is_well_formed_group groups n group.0 formed group.1 in
    let name = (both (is_name group.0.name) (has_its_places group.0) well).0 in
    both_hold (is_name (name_at groups n)) (list_all is_name (map (name_at groups) ns)) (ap is_name (named groups n group.0 group.1) ∙ name)
    (names_at groups formed ns h.1)

-- if names are distinct, the name of a group is that of no other
as_flat : (groups : List TrunkGroup) → flat_map (λ group. group.name ∷ []) groups ≡ map (λ group. group.name) groups
as_flat [] = refl
as_flat (group ∷ groups) = ap (λ (names : List (List ℕ)). group.name ∷ names) (as_flat groups)

number-of_name : (groups : List TrunkGroup) → are_names_distinct groups ≡ true → (n : ℕ) → nat_lt n (length groups) ≡ true
    → group_number groups (name_at groups n) ≡ n
number-of_name groups once n e = of (position (λ group. bytes_eq group.name (name_at groups n)) groups) refl where
  it : (group : TrunkGroup) × (slice_get groups n ≡ Some group)
  it = there groups n e

  same : bytes_eq it.0.name (name_at groups n) ≡ true
  same = (bytes_eq-Decides it.0.name (name_at groups n)).1 (sym (named groups n it.0 it.1))

  of : (o : Option ℕ) → position (λ group. bytes_eq group.name (name_at groups n)) groups ≡ o → unwrap_or o (length groups) ≡ n
  of None none =
      let fails =
      subst (λ (o : Option TrunkGroup). IfSome o (λ group. bytes_eq group.name (name_at groups n) ≡ false)) it.1
      (position-none (λ group. bytes_eq group.name (name_at groups n)) groups none n) in
      let no : true ≡ false = sym same ∙ fails in
      cc
  of (Some j) found =
      let within = (position-Some (λ group. bytes_eq group.name (name_at groups n)) groups j it.0 found).0 in
      let other = there groups j (lt-ltb j (length groups) within) in
      let passes =
      subst (λ (o : Option TrunkGroup). IsSomeAnd o (λ group. bytes_eq group.name (name_at groups n) ≡ true)) other.1
      (position-some (λ group. bytes_eq group.name (name_at groups n)) j groups found) in
      let its : other.0.name ≡ name_at groups n = (bytes_eq-Decides other.0.name (name_at groups n)).0 passes in
      one_giver bytes_eq bytes_eq-itself (λ group. group.name ∷ []) groups j n other.0 it.0 (name_at groups n)
      (ap (are_distinct bytes_eq) (as_flat groups) ∙ once) other.1 it.1 (inl (sym its)) (inl (named groups n it.0 it.1))

numbers-back : (groups : List TrunkGroup) → are_names_distinct groups ≡ true → (ns : List ℕ) → list_all (λ n. nat_lt n (length groups)) ns ≡ true
    → map (group_number groups) (map (name_at groups) ns) ≡ ns
numbers-back groups once [] all = refl
numbers-back groups once (n ∷ ns) all =
    let h = both (nat_lt n (length groups)) (list_all (λ n. nat_lt n (length groups)) ns) all in
    λ i. number-of_name groups once n h.0 i ∷ numbers-back groups once ns h.1 i

-- a code with the names of its groups
abbrev pub entry_in : List TrunkGroup → Route → CodeEntry
entry_in groups route = record { code = route.code; names = map (name_at groups) route.groups }

code-solid : (code : ℕ) → is_one_part (digits 3 code) ≡ true
code-solid code = rw (digit_solid (code / 100 % 10), digit_solid (code / 10 % 10), digit_solid (code / 1 % 10))

pub entry-reads : (groups : List TrunkGroup) → list_all is_well_formed_group groups ≡ true → (route : Route) → nat_lt route.code 1000 ≡ true
    → list_all (λ n. nat_lt n (length groups)) route.groups ≡ true → code_entry_of (route_text groups route) ≡ Some (entry_in groups route)
entry-reads groups formed route code known =
    let names = names_at groups formed route.groups known in
    rw (
      parts-spaced (digits 3 route.code) (map (name_at groups) route.groups) (code-solid route.code) (names-solid (map (name_at groups) route.groups) names),
      code-reads route.code code,
      names-read (map (name_at groups) route.groups) names,
    )

pub route-back : (groups : List TrunkGroup) → are_names_distinct groups ≡ true → (route : Route) → list_all (λ n. nat_lt n (length groups)) route.groups ≡ true
    → route_of_entry groups (entry_in groups route) ≡ route
route-back groups once route known = λ i. record { code = route.code; groups = numbers-back groups once route.groups known i }
