-- From which turn until which turn each path stands. A turn is counted as the index of its record.
use Rattle.std.specs.Prelude.{ℕ, ◌+◌, ◌==◌, ◌&&◌, Bool, true, Option, Some, None, List, [], ◌∷◌, ◌++◌, filter, if◌then◌else◌, is_some, map, nat_le, nat_lt, not}
use Rattle.std.specs.List.{list_any}
use Rattle.xbar_equip.specs.Len.{line_eq}
use Rattle.xbar_equip.specs.Ten.{place_eq}
use Rattle.xbar_equip.specs.declared.path.Path.{Path}
use Rattle.xbar_page.specs.declared.stays.Stay.{Stay}
use Rattle.xbar_page.specs.Sections.{Section}

-- whether two paths are the same
abbrev pub is_same : Path → Path → Bool
is_same path other =
    line_eq path.line other.line && path.channel == other.channel && place_eq path.place other.place

-- whether a set has a path
abbrev pub has_path : Path → List Path → Bool
has_path path set = list_any (is_same path) set

-- the first turn after which a path is gone, if there is one; the first set is the one after this
-- turn
unfoldable pub until : ℕ → Path → List (List Path) → Option ℕ
until turn path [] = None
until turn path (set ∷ later) =
    if has_path path set then until (turn + 1) path later else Some turn

-- the stay of a path that a turn sets up, by the sets after the later turns
abbrev pub stay_from : ℕ → List (List Path) → Path → Stay
stay_from turn later path =
    record { path = path; from = turn; until = until (turn + 1) path later }

-- the stays of the paths that come from this turn on, by the set before it and the sets after it
-- and the later turns: those of the paths that the turn brings, then those of later ones
unfoldable pub stays_from : ℕ → List Path → List (List Path) → List Stay
stays_from turn before [] = []
stays_from turn before (now ∷ later) =
    map (stay_from turn later) (filter (λ path. not (has_path path before)) now)
    ++ stays_from (turn + 1) now later

-- the stays of all paths, by the sets after all turns
abbrev pub stays : List (List Path) → List Stay
stays sets = stays_from 0 [] sets

-- the sets after the turns of sections
abbrev pub sets_of : List Section → List (List Path)
sets_of sections = map (λ section. section.paths) sections

-- whether a turn is before the end of a stay
abbrev pub is_before : ℕ → Option ℕ → Bool
is_before turn None = true
is_before turn (Some end) = nat_lt turn end

-- whether a path stands after a turn
abbrev pub stands_after : ℕ → Stay → Bool
stands_after turn stay = nat_le stay.from turn && is_before turn stay.until

-- the paths that stand after a turn
abbrev pub standing : ℕ → List Stay → List Path
standing turn stays = map (λ stay. stay.path) (filter (stands_after turn) stays)

-- whether a path stands after the last turn
abbrev pub stands_to_the_end : Stay → Bool
stands_to_the_end stay = not (is_some stay.until)
