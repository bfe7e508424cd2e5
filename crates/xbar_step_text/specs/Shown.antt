use Rattle.std.specs.Prelude.{ℕ, ◌-◌, nat_lt, Bool, false, true, List, [], ◌∷◌, ◌++◌, codes, decimal, filter, flat_map, map, if◌then◌else◌}
use Rattle.std.specs.Int.{bit_at}
use Rattle.std.specs.List.{concat, range_with_len}
use Rattle.xbar_equip.specs.declared.link.LinkKind.TheVariants.{LineLink, Junctor, TrunkLink}
use Rattle.xbar_switch.specs.Field.{field_of}
use Rattle.xbar_switch.specs.declared.shape.Shape.TheVariants as shape
use Rattle.xbar_step_text.specs.Places.{line_name, link_name, trunk_name}
use Rattle.xbar_step_text.specs.declared.place.Place.{Place}
use Rattle.xbar_step_text.specs.declared.place.Place.TheVariants.{LineSwitch, LineJunctor, TrunkSwitch, TrunkJunctor, Group, Other}

-- the number of positions in the word of a place: ten fields of a switch, 64 bits of a group
unfoldable pub positions : Place → ℕ
positions (LineSwitch frame switch) = 10
positions (LineJunctor frame channel) = 10
positions (TrunkSwitch frame switch) = 10
positions (TrunkJunctor frame channel) = 10
positions (Group group) = 64
positions (Other word) = 0

-- the value at a position of a place's word: that of a field, or a member's bit
unfoldable pub held_at : Place → ℕ → ℕ → ℕ
held_at (LineSwitch frame switch) word field = field_of shape.Line word field
held_at (LineJunctor frame channel) word field = field_of shape.Other word field
held_at (TrunkSwitch frame switch) word field = field_of shape.Other word field
held_at (TrunkJunctor frame channel) word field = field_of shape.Other word field
held_at (Group group) word member = bit_at word member
held_at (Other number) word position = 0

-- two texts joined by 'and'
abbrev two : List ℕ → List ℕ → List ℕ
two one other = concat (one ∷ codes " and " ∷ other ∷ [])

-- what a field joins if it is closed at this place of the switch; for a group, the member
unfoldable pub item_name : Place → ℕ → ℕ → List ℕ
item_name (LineSwitch frame switch) field place =
    two (line_name frame switch place) (link_name LineLink frame switch field)
item_name (LineJunctor frame channel) field place =
    two (link_name LineLink frame place channel) (link_name Junctor frame field channel)
item_name (TrunkJunctor frame channel) field place =
    two (link_name Junctor field frame channel) (link_name TrunkLink frame place channel)
item_name (TrunkSwitch frame switch) field place =
    two (link_name TrunkLink frame switch field) (trunk_name frame switch place)
item_name (Group group) member place = decimal member
item_name (Other word) position place = decimal position

-- whether a position shows something: its field is closed, or its member is busy
abbrev pub is_shown : Place → ℕ → ℕ → Bool
is_shown place word position = nat_lt 0 (held_at place word position)

-- the item that a position shows
abbrev pub item_at : Place → ℕ → ℕ → List ℕ
item_at place word position = item_name place position (held_at place word position - 1)

-- the item that a position shows, after a lead; empty if it shows nothing
unfoldable pub shown_at : Place → ℕ → ℕ → List ℕ → List ℕ
shown_at place word position lead =
    if is_shown place word position then lead ++ item_at place word position else []

-- the items that a word shows at its first `count` positions: the closed fields, or the busy
-- members
unfoldable pub shown_to : ℕ → Place → ℕ → List (List ℕ)
shown_to count place word =
    map (item_at place word) (filter (is_shown place word) (range_with_len 0 count))

-- all items that a word shows
abbrev pub shown : Place → ℕ → List (List ℕ)
shown place word = shown_to (positions place) place word

-- texts after a head, with separators between them; or another text if there are none
unfoldable pub listed : List ℕ → List ℕ → List ℕ → List (List ℕ) → List ℕ
listed none head separator [] = none
listed none head separator (text ∷ texts) =
    head ++ text ++ flat_map (λ other. separator ++ other) texts

-- whether there are any texts
abbrev pub has_any : List (List ℕ) → Bool
has_any [] = false
has_any (text ∷ texts) = true
