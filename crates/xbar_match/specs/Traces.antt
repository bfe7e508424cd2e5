use Rattle.std.specs.Prelude.{ℕ, zero, suc, ◌+◌, ◌==◌, nat_lt, Option, Some, None, if◌then◌else◌, List}
use Rattle.std.specs.Option.{option_map, option_and_then}
use Rattle.xbar_equip.specs.Len.{Line}
use Rattle.xbar_equip.specs.Ten.{TrunkPlace}
use Rattle.xbar_equip.specs.Path.{path_by}
use Rattle.xbar_equip.specs.First.{first_below}
use Rattle.xbar_equip.specs.Word.{LineSwitch, LineJunctor, TrunkSwitch, TrunkJunctor}
use Rattle.xbar_equip.specs.declared.path.Path.{Path}
use Rattle.xbar_switch.specs.Shape.{places}
use Rattle.xbar_switch.specs.Field.{field_of}
use Rattle.xbar_switch.specs.declared.shape.Shape.{Shape}
use Rattle.xbar_switch.specs.declared.shape.Shape.TheVariants.{Line as LineShape, Other}
use Rattle.xbar_match.specs.Switches.{word_of}

-- the lowest field of a word that is closed at this place
abbrev pub field_at_place : Shape → ℕ → ℕ → Option ℕ
field_at_place shape word place = first_below (λ v. field_of shape word v == 1 + place) 10

-- the place that the value of a field means: none for 0, and none past the last place
abbrev pub place_of_value : Shape → ℕ → Option ℕ
place_of_value shape zero = None
place_of_value shape (suc place) = if nat_lt place (places shape) then Some place else None

-- the place that field v is closed at, if any
abbrev pub place_at_field : Shape → ℕ → ℕ → Option ℕ
place_at_field shape word v = place_of_value shape (field_of shape word v)

-- the path of a line whose channel, trunk link frame and trunk switch are known
abbrev pub traced_at : List ℕ → Line → ℕ → ℕ → ℕ → Option Path
traced_at words line channel frame switch =
    option_map (λ appearance. path_by line
    (record { frame = frame; switch = switch; appearance = appearance }) channel)
    (place_at_field Other (word_of words (TrunkSwitch frame switch)) channel)

-- the path of a line whose channel and trunk link frame are known
abbrev pub traced_to : List ℕ → Line → ℕ → ℕ → Option Path
traced_to words line channel frame =
    option_and_then (traced_at words line channel frame)
    (place_at_field Other (word_of words (TrunkJunctor frame channel)) line.frame)

-- the path of a line whose channel is known
abbrev pub traced_by : List ℕ → Line → ℕ → Option Path
traced_by words line channel =
    option_and_then (traced_to words line channel)
    (field_at_place Other (word_of words (LineJunctor line.frame channel)) line.switch)

-- the path of a line, traced from switch to switch, if the words lead to a trunk place
abbrev pub traced : List ℕ → Line → Option Path
traced words line =
    option_and_then (traced_by words line)
    (field_at_place LineShape (word_of words (LineSwitch line.frame line.switch)) line.x)

-- the path of a place whose channel, line link frame and line switch are known
abbrev pub traced_back_at : List ℕ → TrunkPlace → ℕ → ℕ → ℕ → Option Path
traced_back_at words place channel frame switch =
    option_map (λ x. path_by (record { frame = frame; switch = switch; x = x }) place channel)
    (place_at_field LineShape (word_of words (LineSwitch frame switch)) channel)

-- the path of a place whose channel and line link frame are known
abbrev pub traced_back_to : List ℕ → TrunkPlace → ℕ → ℕ → Option Path
traced_back_to words place channel frame =
    option_and_then (traced_back_at words place channel frame)
    (place_at_field Other (word_of words (LineJunctor frame channel)) place.frame)

-- the path of a place whose channel is known
abbrev pub traced_back_by : List ℕ → TrunkPlace → ℕ → Option Path
traced_back_by words place channel =
    option_and_then (traced_back_to words place channel)
    (field_at_place Other (word_of words (TrunkJunctor place.frame channel)) place.switch)

-- the path of a trunk place, traced back from switch to switch, if the words lead to a line
abbrev pub traced_back : List ℕ → TrunkPlace → Option Path
traced_back words place =
    option_and_then (traced_back_by words place)
    (field_at_place Other (word_of words (TrunkSwitch place.frame place.switch)) place.appearance)
