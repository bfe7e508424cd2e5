use Rattle.std.specs.Prelude.{◌≡◌, min, ℕ, ◌+◌, ◌-◌, ◌*◌, ◌&&◌, ◌==◌, ◌<◌, nat_lt, Bool, true, if◌then◌else◌, Option, Some, None, option_map, option_and_then, unwrap_or, position, List, [], ◌∷◌, length, take, drop, map, slice_index, bytes_eq, codes}
use Rattle.std.specs.Char.{is_ascii_digit}
use Rattle.xbar_equip.specs.Len.{Line, is_line, line_text}
use Rattle.xbar_equip.specs.Ten.{TrunkPlace, is_trunk_place, place_text}
use Rattle.xbar_equip.specs.Link.{Link, is_link, link_text}
use Rattle.xbar_equip.specs.DirNo.{dir_no_text}
use Rattle.xbar_equip.specs.declared.link.LinkKind.{LinkKind}
use Rattle.xbar_equip.specs.declared.link.LinkKind.TheVariants.{LineLink, Junctor, TrunkLink}
use Rattle.xbar_plan.specs.Group.{TrunkGroup}
use Rattle.xbar_plan.specs.Tables.{Station, Route}
use Rattle.xbar_plan.specs.Lawful.{is_name}
use Rattle.xbar_plan.specs.declared.group.GroupKind.{GroupKind}
use Rattle.xbar_plan.specs.declared.group.GroupKind.TheVariants.{Register, Intra, Outgoing}
use Rattle.xbar_plan.specs.declared.group.Member.{Member}
use Rattle.xbar_plan_text.specs.declared.read.version.Version.{Version}
use Rattle.xbar_plan_text.specs.declared.read.version.Version.TheVariants.{One, Two}

-- ---- parts

-- the parts, with a byte put in front of the first one
abbrev pub onto_first : ℕ → List (List ℕ) → List (List ℕ)
onto_first byte [] = (byte ∷ []) ∷ []
onto_first byte (part ∷ others) = (byte ∷ part) ∷ others

-- the parts of a text, split at its spaces: a space at either end, or two in a row, give an empty
-- part
abbrev pub parts : List ℕ → List (List ℕ)
parts [] = [] ∷ []
parts (byte ∷ text) = if byte == 32 then [] ∷ parts text else onto_first byte (parts text)

-- the first part of a text, and the text of the other parts
pub record IsFirstPart (text first others : List ℕ) : Type 0 where
  pub parts_are : parts text ≡ first ∷ parts others
  pub is_shorter : length others < length text

-- the result of reading each item, if each can be read
abbrev pub read_all : {A B : Type 0} → (A → Option B) → List A → Option (List B)
read_all read [] = Some []
read_all read (item ∷ items) =
    option_and_then (λ first. option_map (λ others. first ∷ others) (read_all read items))
    (read item)

-- ---- numbers

-- the digit at an index of a text
abbrev pub digit_at : List ℕ → ℕ → ℕ
digit_at text place = slice_index text place - 48

-- the value, if it is in range and has this text
abbrev pub whose_text : {A : Type 0} → (A → Bool) → (A → List ℕ) → List ℕ → A → Option A
whose_text in_range text_of text value =
    if in_range value && bytes_eq text (text_of value) then Some value else None

-- the line with this text: four digits
abbrev pub line_of : List ℕ → Option Line
line_of text = whose_text is_line line_text text
    (record {
      frame = digit_at text 0;
      switch = digit_at text 1;
      x = 5 * digit_at text 2 + digit_at text 3;
    })

-- the trunk place with this text: three digits
abbrev pub place_of : List ℕ → Option TrunkPlace
place_of text = whose_text is_trunk_place place_text text
    (record { frame = digit_at text 0; switch = digit_at text 1; appearance = digit_at text 2 })

-- the directory number with this text: four digits
abbrev pub number_of : List ℕ → Option ℕ
number_of text = whose_text (λ number. nat_lt number 10000) dir_no_text text
    (1000 * digit_at text 0 + 100 * digit_at text 1 + 10 * digit_at text 2 + digit_at text 3)

-- the code with this text: three digits
abbrev pub code_of : List ℕ → Option ℕ
code_of (a ∷ b ∷ c ∷ []) =
    if is_ascii_digit a && is_ascii_digit b
    && is_ascii_digit c then Some (100 * (a - 48) + 10 * (b - 48) + (c - 48)) else None
code_of _ = None

-- the kind of link that a text begins with, as far as its first letter says
abbrev pub link_kind_of : List ℕ → LinkKind
link_kind_of text =
    if slice_index text 0 == 76 then LineLink
    else if slice_index text 0 == 74 then Junctor
    else TrunkLink

-- ---- the four kinds of item

-- a member of an intra group: two trunk places with a hyphen between them, the calling side's
-- first
abbrev pub pair_of : List ℕ → Option Member
pair_of text =
    if slice_index text 3 == 45
    then option_and_then
    (λ first. option_map (λ second. record { first = first; second = Some second })
    (place_of (drop 4 text))) (place_of (take 3 text))
    else None

-- a member of a group of this kind: a pair in an intra group, else one trunk place
abbrev pub member_of : GroupKind → List ℕ → Option Member
member_of Intra text = pair_of text
member_of _ text = option_map (λ first. record { first = first; second = None }) (place_of text)

-- the kind of group with this name
abbrev pub kind_of : List ℕ → Option GroupKind
kind_of text =
    if bytes_eq text (codes "register") then Some Register
    else if bytes_eq text (codes "intra") then Some Intra
    else if bytes_eq text (codes "outgoing") then Some Outgoing
    else None

-- the text, if it is a valid name
abbrev pub name_of : List ℕ → Option (List ℕ)
name_of text = if is_name text then Some text else None

-- a group from its parts: NAME KIND MEMBER MEMBER ..
abbrev pub group_of_parts : List (List ℕ) → Option TrunkGroup
group_of_parts (name ∷ kind ∷ members) =
    option_and_then (λ name. option_and_then
    (λ kind. option_map (λ members. record { name = name; kind = kind; members = members })
    (read_all (member_of kind) members)) (kind_of kind)) (name_of name)
group_of_parts _ = None

-- a group from its text
abbrev pub group_of : List ℕ → Option TrunkGroup
group_of text = group_of_parts (parts text)

-- whether the version allows this number of lines: version 1 allows exactly one
abbrev pub is_line_count : Version → ℕ → Bool
is_line_count One count = count == 1
is_line_count Two count = true

-- a directory number and its lines from their parts: DDDD LEN LEN ..
abbrev pub station_of_parts : Version → List (List ℕ) → Option Station
station_of_parts version (number ∷ lines) =
    if is_line_count version (length lines)
    then option_and_then
    (λ number. option_map (λ lines. record { number = number; lines = lines })
    (read_all line_of lines)) (number_of number)
    else None
station_of_parts version [] = None

-- a directory number and its lines from their text
abbrev pub station_of : Version → List ℕ → Option Station
station_of version text = station_of_parts version (parts text)

-- a code and the names of the groups that it leads to
pub record CodeEntry : Type 0 where
  pub code : ℕ
  pub names : List (List ℕ)

-- a code and group names from their parts: CCC NAME NAME ..
abbrev pub code_entry_of_parts : List (List ℕ) → Option CodeEntry
code_entry_of_parts (code ∷ names) =
    option_and_then (λ code. option_map (λ names. record { code = code; names = names })
    (read_all name_of names)) (code_of code)
code_entry_of_parts [] = None

-- a code and group names from their text
abbrev pub code_entry_of : List ℕ → Option CodeEntry
code_entry_of text = code_entry_of_parts (parts text)

-- a link that is out of order, from its text: two letters and three digits
abbrev pub fault_of : List ℕ → Option Link
fault_of text = whose_text is_link link_text text
    (record {
      kind = link_kind_of text;
      frame = digit_at text 2;
      at = digit_at text 3;
      channel = digit_at text 4;
    })

-- ---- names

-- the number of the first group with this name, counted from 0, or the number of groups if none
-- has it
abbrev pub group_number : List TrunkGroup → List ℕ → ℕ
group_number groups name =
    unwrap_or (position (λ group. bytes_eq group.name name) groups) (length groups)

-- the route of an entry, with its groups by number
abbrev pub route_of_entry : List TrunkGroup → CodeEntry → Route
route_of_entry groups entry =
    record { code = entry.code; groups = map (group_number groups) entry.names }

-- the same number, but at most 255: a plan with that many groups is refused anyway
abbrev pub capped_number : List TrunkGroup → List ℕ → ℕ
capped_number groups name = min 255 (group_number groups name)

-- the route of an entry, with its groups by these numbers
abbrev pub capped_route : List TrunkGroup → CodeEntry → Route
capped_route groups entry =
    record { code = entry.code; groups = map (capped_number groups) entry.names }
