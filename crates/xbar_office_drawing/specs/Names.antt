-- The names of lines and trunks beside the frames: in five rows, each beside two switches.
use Rattle.std.specs.Prelude.{ℕ, ◌+◌, ◌*◌, ◌-◌, ◌/◌, ◌==◌, ◌&&◌, Bool, Option, Some, None, List, [], ◌∷◌, ◌++◌, codes, filter, find, if◌then◌else◌, length, nat_lt, option_map}
use Rattle.std.specs.List.{list_any}
use Rattle.svg.specs.Figure.{Figure}
use Rattle.svg.specs.declared.shape.ShapeOf.TheVariants.{Text}
use Rattle.xbar_equip.specs.DirNo.{dir_no_text}
use Rattle.xbar_equip.specs.Len.{Line, line_eq, line_text}
use Rattle.xbar_equip.specs.declared.path.Path.{Path}
use Rattle.xbar_office_text.specs.Ends.{member_text}
use Rattle.xbar_plan.specs.Tables.{Station, Tables}
use Rattle.xbar_office_drawing.specs.Office.{frame_top}

-- the baseline of the names in the row beside a switch
abbrev pub name_level : ℕ → ℕ → ℕ
name_level frame switch = frame_top frame + 16 * (switch / 2) + 13

-- whether a number has a line
abbrev pub is_number_of : Line → Station → Bool
is_number_of line station = list_any (λ other. line_eq other line) station.lines

-- the first number that has a line, if one has
abbrev pub first_number : Tables → Line → Option ℕ
first_number plan line = option_map (λ s. s.number) (find (is_number_of line) plan.stations)

-- the name of a line, right of which its columns begin: its number, or the line itself if it has no
-- number
abbrev pub named_line : ℕ → Path → Option ℕ → Figure
named_line column path None =
    Text (204 - 40 * column, name_level path.line.frame path.line.switch)
    (codes "line unlisted") (line_text path.line)
named_line column path (Some number) =
    Text (204 - 40 * column, name_level path.line.frame path.line.switch)
    (codes "line") (dir_no_text number)

-- the name of a path's line in a column of four; none beyond them
unfoldable pub line_name : Tables → ℕ → Path → List Figure
line_name plan column path =
    if nat_lt column 4 then named_line column path (first_number plan path.line) ∷ [] else []

-- the name of a path's trunk in a column of three; none beyond them
unfoldable pub trunk_name : Tables → ℕ → Path → List Figure
trunk_name plan column path =
    if nat_lt column 3 then
    (Text (1260 + 102 * column, name_level path.place.frame path.place.switch)
    (codes "trunk") (member_text plan path) ∷ []) else []

-- whether the names of two lines are in one row
abbrev pub share_line_row : Path → Path → Bool
share_line_row path other =
    path.line.frame == other.line.frame && path.line.switch / 2 == other.line.switch / 2

-- whether the names of two trunks are in one row
abbrev pub share_trunk_row : Path → Path → Bool
share_trunk_row path other =
    path.place.frame == other.place.frame && path.place.switch / 2 == other.place.switch / 2

-- the two names of a path that comes after earlier ones: the columns before them have the names of
-- those that share a row
unfoldable pub names_after : Tables → List Path → Path → List Figure
names_after plan earlier path =
    line_name plan (length (filter (share_line_row path) earlier)) path
    ++ trunk_name plan (length (filter (share_trunk_row path) earlier)) path

-- the names of the paths that are left after earlier ones
abbrev pub names_from : Tables → List Path → List Path → List Figure
names_from plan earlier [] = []
names_from plan earlier (path ∷ more) =
    names_after plan earlier path ++ names_from plan (earlier ++ path ∷ []) more

-- the names of all paths
abbrev pub names : Tables → List Path → List Figure
names plan paths = names_from plan [] paths
