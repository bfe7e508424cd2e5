-- The items that describe a walk, and their text.
use Rattle.std.specs.Prelude.{◌≡◌, ℕ, ◌&&◌, ◌⊎◌, Bool, true, false, List, [], ◌∷◌, ◌++◌, codes, flat_map, map, if◌then◌else◌}
use Rattle.xbar_office.specs.declared.job.Job.{Job}
use Rattle.xbar_office.specs.declared.reply.Record.{Record}
use Rattle.xbar_jobs.specs.declared.program.Step.{Step}
use Rattle.xbar_jobs.specs.declared.program.Step.TheVariants as step
use Rattle.xbar_step_text.specs.Lines.{assignment_line, settling_line, step_lines}
use Rattle.xbar_step_text.specs.Objects.{assignment_object, settling_object, step_object}
use Rattle.xbar_step_text.specs.Places.{place_of}
use Rattle.xbar_walk.specs.Rows.{are_joined, goes_on, is_short, test_line, tests_line}
use Rattle.xbar_walk.specs.declared.detail.Detail.{Detail}
use Rattle.xbar_walk.specs.declared.detail.Detail.TheVariants.{Each, Short, JsonLines, JsonList}
use Rattle.xbar_walk.specs.declared.rows.Tested.{Tested}
use Rattle.xbar_step_text.specs.declared.observation.Observation.{Observation}

-- an item of a description: a test, which may share its line with others, or lines of its own
pub data Item : Type 0 where
  Tests : Tested → Item
  Says : List ℕ → Item

-- the lines of an item that shares none with others
unfoldable pub item_lines : Item → List ℕ
item_lines (Tests tested) = test_line tested
item_lines (Says lines) = lines

-- the item of a step in words, by its kind: of a test only the test, of any other step its lines
abbrev pub item_of : Step → ℕ → ℕ → Observation → List Record → Item
item_of (step.Test word) number marker observed records =
    Tests (record
    { number = number; marker = marker; place = place_of word; word = observed.found })
item_of _ number marker observed records = Says (step_lines number marker observed records)

-- whether events are described as objects
abbrev pub is_json : Detail → Bool
is_json JsonLines = true
is_json JsonList = true
is_json _ = false

-- what is written before an object, and after it
abbrev pub before_object : Detail → List ℕ
before_object JsonList = codes ","
before_object _ = []

abbrev pub after_object : Detail → List ℕ
after_object JsonLines = codes "\n"
after_object _ = []

-- the item of an event, by its item in words and by its object, which has a line of its own or
-- follows a comma
abbrev pub item_in : Detail → Item → List ℕ → Item
item_in Each item object = item
item_in Short item object = item
item_in JsonLines item object = Says (object ++ codes "\n")
item_in JsonList item object = Says (codes "," ++ object)

-- the item of a step, by its number, its marker, what was observed and the records that it added
unfoldable pub step_item : Detail → ℕ → ℕ → Observation → List Record → Item
step_item detail number marker observed records =
    item_in detail (item_of observed.step number marker observed records)
    (step_object number marker observed records)

-- the item of a job's assignment to a marker
unfoldable pub assignment_item : Detail → ℕ → ℕ → Job → Item
assignment_item detail marker job_no job =
    item_in detail (Says (assignment_line marker job_no job))
    (assignment_object marker job_no job)

-- the item that the office settles
unfoldable pub settling_item : Detail → Item
settling_item detail = item_in detail (Says settling_line) settling_object

-- whether an item shares the line of the test before it: in short detail, if it is a test that
-- continues the row
abbrev pub joins_test : Detail → Tested → Item → Bool
joins_test detail before (Tests tested) = is_short detail && goes_on before tested
joins_test detail before (Says lines) = false

-- whether an item shares the line of the item before it
abbrev pub joins : Detail → Item → Item → Bool
joins detail (Tests before) item = joins_test detail before item
joins detail (Says lines) item = false

-- whether the first of the later items, if there is any, shares the line of an item
abbrev pub joins_first : Detail → Item → List Item → Bool
joins_first detail item [] = false
joins_first detail item (next ∷ later) = joins detail item next

-- runs with an item put at the front of the first one, or as the only run if there is none
abbrev pub in_first : Item → List (List Item) → List (List Item)
in_first item [] = (item ∷ []) ∷ []
in_first item (run ∷ runs) = (item ∷ run) ∷ runs

-- runs with an item put before them: in the first run if it is joined to that run, else in a run
-- of its own
abbrev pub before_runs : Bool → Item → List (List Item) → List (List Item)
before_runs joined item runs = if joined then in_first item runs else (item ∷ []) ∷ runs

-- items cut into runs: a run ends after each item whose line the next item doesn't share
unfoldable pub runs_of : Detail → List Item → List (List Item)
runs_of detail [] = []
runs_of detail (item ∷ later) =
    before_runs (joins_first detail item later) item (runs_of detail later)

-- a run is one item, or two or more successive tests of a row
abbrev pub IsRun : Detail → List Item → Type 0
IsRun detail run =
    ((item : Item) × (run ≡ item ∷ []))
    ⊎ ((first : Tested) × (next : Tested) × (later : List Tested)
    × (run ≡ map Tests (first ∷ next ∷ later)) × (are_joined detail (first ∷ next ∷ later) ≡ true))

-- the test of an item, if it is one
abbrev pub tests_of : Item → List Tested
tests_of (Tests tested) = tested ∷ []
tests_of (Says lines) = []

-- the lines of a run: those of its only item, or the one line of its tests
unfoldable pub run_lines : List Item → List ℕ
run_lines [] = []
run_lines (Says lines ∷ later) = lines
run_lines (Tests first ∷ later) = tests_line first (flat_map tests_of later)

-- the text of items: the lines of their runs
unfoldable pub walk_text_of : Detail → List Item → List ℕ
walk_text_of detail items = flat_map run_lines (runs_of detail items)
