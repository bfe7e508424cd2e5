-- Tests that share one line: successive tests of a row of switches.
use Rattle.std.specs.Prelude.{ℕ, ◌+◌, ◌==◌, ◌&&◌, Bool, true, false, List, [], ◌∷◌, codes, decimal, flat_map}
use Rattle.std.specs.List.{concat}
use Rattle.xbar_step_text.specs.Lines.{marker_line}
use Rattle.xbar_step_text.specs.Places.{kind_name, place_numbers}
use Rattle.xbar_step_text.specs.Shown.{listed, shown}
use Rattle.xbar_step_text.specs.Words.{test_words}
use Rattle.xbar_step_text.specs.declared.place.Place.{Place}
use Rattle.xbar_step_text.specs.declared.place.Place.TheVariants.{LineJunctor, TrunkJunctor}
use Rattle.xbar_walk.specs.declared.detail.Detail.{Detail}
use Rattle.xbar_walk.specs.declared.detail.Detail.TheVariants.{Short}
use Rattle.xbar_walk.specs.declared.rows.Tested.{Tested}

-- whether the second place is the switch after the first in a row: a row is the junctor switches
-- of one frame
abbrev pub follows : Place → Place → Bool
follows (LineJunctor frame channel) (LineJunctor own at) = (own == frame) && (at == channel + 1)
follows (TrunkJunctor frame channel) (TrunkJunctor own at) = (own == frame) && (at == channel + 1)
follows _ _ = false

-- whether a test continues the row of the test before it: the same marker tests the next switch
abbrev pub goes_on : Tested → Tested → Bool
goes_on before tested = (before.marker == tested.marker) && follows before.place tested.place

-- all that the tests found
abbrev pub finds : List Tested → List (List ℕ)
finds tests = flat_map (λ tested. shown tested.place tested.word) tests

-- all that the tests of a row found, in words
unfoldable pub row_found : List Tested → List ℕ
row_found tests = listed (codes "nothing closed") (codes "closed: ") (codes "; ") (finds tests)

-- the last of one or more tests
unfoldable pub last_of : Tested → List Tested → Tested
last_of first [] = first
last_of first (next ∷ later) = last_of next later

-- the tests of a row in words: the first and the last switch, the numbers of their steps, and all
-- that the tests found. A row has only switches, so the plural ends in 'es'
unfoldable pub row_words : Tested → Tested → List Tested → List ℕ
row_words first last tests =
    concat (codes "tests " ∷ kind_name first.place ∷ codes "es " ∷ place_numbers first.place
    ∷ codes " to " ∷ place_numbers last.place ∷ codes " (steps " ∷ decimal first.number
    ∷ codes " to " ∷ decimal last.number ∷ codes "): " ∷ row_found tests ∷ [])

-- the line of the tests of a row, with the number and the marker of the first
unfoldable pub row_line : Tested → Tested → List Tested → List ℕ
row_line first last tests =
    marker_line first.number first.marker (row_words first last tests)

-- the line of a single test
unfoldable pub test_line : Tested → List ℕ
test_line tested =
    marker_line tested.number tested.marker (test_words tested.place tested.word)

-- the line of one or more tests: a single test has its own, and the tests of a row share one,
-- which begins with the number of the first
unfoldable pub tests_line : Tested → List Tested → List ℕ
tests_line first [] = test_line first
tests_line first (next ∷ later) = row_line first (last_of next later) (first ∷ next ∷ later)

-- the line of the tests, or nothing if there are none
abbrev pub tests_text : List Tested → List ℕ
tests_text [] = []
tests_text (first ∷ later) = tests_line first later

-- whether the tests of a row share one line
abbrev pub is_short : Detail → Bool
is_short Short = true
is_short _ = false

-- whether the first of the later tests, if there is any, shares the line of a test
abbrev pub leads : Detail → Tested → List Tested → Bool
leads detail tested [] = true
leads detail tested (next ∷ later) = is_short detail && goes_on tested next

-- whether the tests share one line: each continues the row of the one before it
abbrev pub are_joined : Detail → List Tested → Bool
are_joined detail [] = true
are_joined detail (tested ∷ later) = leads detail tested later && are_joined detail later

-- whether a test shares the line of these tests: it continues the row of the last of them
abbrev pub shares_line : Detail → List Tested → Tested → Bool
shares_line detail [] tested = false
shares_line detail (first ∷ later) tested = is_short detail && goes_on (last_of first later) tested
