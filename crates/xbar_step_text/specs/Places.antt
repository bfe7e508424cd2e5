use Rattle.std.specs.Prelude.{ℕ, ◌-◌, ◌/◌, ◌%◌, nat_lt, List, [], ◌∷◌, codes, decimal, if◌then◌else◌}
use Rattle.std.specs.List.{concat}
use Rattle.xbar_equip.specs.Len.{Line, is_line, line_text}
use Rattle.xbar_equip.specs.Link.{Link, is_link, link_text}
use Rattle.xbar_equip.specs.Ten.{TrunkPlace, is_trunk_place, place_text}
use Rattle.xbar_equip.specs.declared.conn.Conn.{Conn}
use Rattle.xbar_equip.specs.declared.conn.Conn.TheVariants as conn
use Rattle.xbar_equip.specs.declared.link.LinkKind.{LinkKind}
use Rattle.xbar_step_text.specs.declared.place.Place.{Place}
use Rattle.xbar_step_text.specs.declared.place.Place.TheVariants.{LineSwitch, LineJunctor, TrunkSwitch, TrunkJunctor, Group, Other}

-- the twenty switches of a line link frame: ten line switches, then ten line junctor switches
abbrev pub on_line_frame : ℕ → ℕ → Place
on_line_frame frame at = if nat_lt at 10 then LineSwitch frame at else LineJunctor frame (at - 10)

-- the twenty switches of a trunk link frame: ten trunk switches, then ten trunk junctor switches
abbrev pub on_trunk_frame : ℕ → ℕ → Place
on_trunk_frame frame at =
    if nat_lt at 10 then TrunkSwitch frame at else TrunkJunctor frame (at - 10)

-- the place that the word with this number belongs to
unfoldable pub place_of : ℕ → Place
place_of word =
    if nat_lt word 200 then on_line_frame (word / 20) (word % 20)
    else (if nat_lt word 400 then on_trunk_frame ((word - 200) / 20) ((word - 200) % 20)
    else (if nat_lt word 416 then Group (word - 400) else Other word))

-- the name of a kind of place
abbrev pub kind_name : Place → List ℕ
kind_name (LineSwitch frame switch) = codes "line switch"
kind_name (LineJunctor frame channel) = codes "line junctor switch"
kind_name (TrunkSwitch frame switch) = codes "trunk switch"
kind_name (TrunkJunctor frame channel) = codes "trunk junctor switch"
kind_name (Group group) = codes "group"
kind_name (Other word) = codes "word"

-- two numbers with a comma between them
abbrev two_numbers : ℕ → ℕ → List ℕ
two_numbers frame switch = concat (decimal frame ∷ codes "," ∷ decimal switch ∷ [])

-- a place by its numbers: a switch by its frame and its number on the frame
unfoldable pub place_numbers : Place → List ℕ
place_numbers (LineSwitch frame switch) = two_numbers frame switch
place_numbers (LineJunctor frame channel) = two_numbers frame channel
place_numbers (TrunkSwitch frame switch) = two_numbers frame switch
place_numbers (TrunkJunctor frame channel) = two_numbers frame channel
place_numbers (Group group) = decimal group
place_numbers (Other word) = decimal word

-- the name of a place: its kind and its numbers
unfoldable pub place_name : Place → List ℕ
place_name place = concat (kind_name place ∷ codes " " ∷ place_numbers place ∷ [])

-- a connector, named by the frame or group that it locks
unfoldable pub conn_name : Conn → List ℕ
conn_name (conn.Llf frame) = concat (codes "line link frame " ∷ decimal frame ∷ [])
conn_name (conn.Tlf frame) = concat (codes "trunk link frame " ∷ decimal frame ∷ [])
conn_name (conn.Group group) = concat (codes "group " ∷ decimal group ∷ [])

-- the line with these numbers, or that there is none
unfoldable pub line_name : ℕ → ℕ → ℕ → List ℕ
line_name frame switch x =
    let line : Line = record { frame = frame; switch = switch; x = x } in
    if is_line line then concat (codes "line " ∷ line_text line ∷ []) else codes "no line"

-- the link with this kind and these numbers, or that there is none
unfoldable pub link_name : LinkKind → ℕ → ℕ → ℕ → List ℕ
link_name kind frame at channel =
    let link : Link = record { kind = kind; frame = frame; at = at; channel = channel } in
    if is_link link then link_text link else codes "no link"

-- the trunk place with these numbers, or that there is none
unfoldable pub trunk_name : ℕ → ℕ → ℕ → List ℕ
trunk_name frame switch appearance =
    let place : TrunkPlace = record { frame = frame; switch = switch; appearance = appearance } in
    if is_trunk_place place then concat (codes "place " ∷ place_text place ∷ [])
    else codes "no place"
