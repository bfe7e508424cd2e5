use Rattle.std.specs.Prelude.{◌≡◌, ℕ, ◌+◌, ◌%◌, ◌<◌, true, false, MatchOption, ◌&&◌, ◌||◌, not, Bool, Option, List, [], ◌∷◌}
use Rattle.std.specs.Option.{option_map}
use Rattle.std.specs.List.{list_any}
use Rattle.std.specs.Ordering.{match_ordering}
use Rattle.std.specs.declared.cmp.Ordering.TheVariants.{Less}
use Rattle.xbar_equip.specs.Among.{IsIn}
use Rattle.xbar_equip.specs.Len.{Line, line_eq}
use Rattle.xbar_equip.specs.Ten.{TrunkPlace, place_eq}
use Rattle.xbar_equip.specs.Link.{Link, link_eq}
use Rattle.xbar_equip.specs.Path.{path_by, path_cmp, line_link, junctor, trunk_link, SharesPart}
use Rattle.xbar_equip.specs.First.{first_below}
use Rattle.xbar_equip.specs.declared.path.Path.{Path}

-- the path comes before each of the paths in the order of paths
abbrev pub IsBeforeAll : Path → List Path → Type 0
IsBeforeAll path [] = Unit {0}
IsBeforeAll path (p ∷ paths) = (path_cmp path p ≡ Less) × IsBeforeAll path paths

-- a set of paths is a list of them in order, each once, so two sets with the same paths are the
-- same list
abbrev pub IsSet : List Path → Type 0
IsSet [] = Unit {0}
IsSet (p ∷ paths) = IsBeforeAll p paths × IsSet paths

-- the set with the path added
abbrev pub with_path : List Path → Path → List Path
with_path [] path = path ∷ []
with_path (p ∷ paths) path =
    match_ordering (path_cmp path p) (path ∷ p ∷ paths) (p ∷ paths) (p ∷ with_path paths path)

-- the set with the path removed
abbrev pub without_path : List Path → Path → List Path
without_path [] path = []
without_path (p ∷ paths) path =
    match_ordering (path_cmp path p) (p ∷ paths) paths (p ∷ without_path paths path)

-- whether the path has this line
abbrev pub has_line : Line → Path → Bool
has_line line path = line_eq path.line line

-- whether the path has this trunk place
abbrev pub has_place : TrunkPlace → Path → Bool
has_place place path = place_eq path.place place

-- whether the path has this link
abbrev pub has_link : Link → Path → Bool
has_link link path =
    link_eq (line_link path) link || link_eq (junctor path) link || link_eq (trunk_link path) link

-- a line, a place or a link is idle if no path has it
abbrev pub is_idle : (Path → Bool) → List Path → Bool
is_idle has paths = not (list_any has paths)

-- whether the three links of the path are idle
abbrev pub has_idle_links : List Path → Path → Bool
has_idle_links paths path =
    is_idle (has_link (line_link path)) paths && is_idle (has_link (junctor path)) paths
    && is_idle (has_link (trunk_link path)) paths

-- channel number k, counted from 0, of the order start, start + 1, .., with 0 after 9
abbrev pub channel_in_turn : ℕ → ℕ → ℕ
channel_in_turn start k = (start + k) % 10

-- the channel test: the first channel in that order, if any, whose line link, junctor and trunk
-- link are idle
abbrev pub channel_test : List Path → Line → TrunkPlace → ℕ → Option ℕ
channel_test paths line place start =
    option_map (channel_in_turn start)
    (first_below (λ k. has_idle_links paths (path_by line place (channel_in_turn start k))) 10)

-- `found` is the first channel in that order whose three links are idle, or None if there is none
abbrev pub IsFirstIdleChannel : List Path → Line → TrunkPlace → ℕ → Option ℕ → Type 0
IsFirstIdleChannel paths line place start found =
    MatchOption found ((j : ℕ) → j < 10 → is_idle_in_turn j ≡ false)
    (λ channel. (k : ℕ) × (k < 10) × (channel ≡ channel_in_turn start k)
    × (is_idle_in_turn k ≡ true) × ((j : ℕ) → j < k → is_idle_in_turn j ≡ false)) where
      is_idle_in_turn : ℕ → Bool
      is_idle_in_turn k = has_idle_links paths (path_by line place (channel_in_turn start k))

-- paths of the list that share a part are the same path
abbrev pub AreApart : List Path → Type 0
AreApart paths = (p q : Path) → IsIn p paths → IsIn q paths → SharesPart p q → p ≡ q
