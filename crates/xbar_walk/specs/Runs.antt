use Rattle.std.specs.Prelude.{ℕ, List, [], ◌∷◌, ◌++◌, codes, if◌then◌else◌}
use Rattle.xbar_plan.specs.Tables.{Tables}
use Rattle.xbar_office.specs.declared.reply.Record.{Record}
use Rattle.xbar_moves.specs.Exchange.{Exchange}
use Rattle.xbar_moves.specs.Moves.{after_step}
use Rattle.xbar_walk.specs.Items.{Item, step_item}
use Rattle.xbar_step_text.specs.Lines.{one_more, step_lines}
use Rattle.xbar_step_text.specs.Objects.{step_object}
use Rattle.xbar_walk.specs.Walks.{Walk, added_by, walk_of_step, is_idle_in, observation_of}
use Rattle.xbar_step_text.specs.declared.observation.Observation.{Observation}
use Rattle.xbar_walk.specs.declared.detail.Detail.{Detail}

-- a walk goes on with a step of each of these markers, in this order
unfoldable pub walk_of_run : List ℕ → Walk → Walk
walk_of_run [] w = w
walk_of_run (k ∷ ks) w = walk_of_run ks (walk_of_step k w)

-- a step that was made: the marker, what was observed, and the records that the step added
pub record Made : Type 0 where
  pub marker : ℕ
  pub observed : Observation
  pub records : List Record

-- marker k's next step, or none if marker k is idle
abbrev pub made_at : Tables → ℕ → Exchange → List Made
made_at plan k e =
    if is_idle_in e k then []
    else (record { marker = k; observed = observation_of plan k e; records = added_by plan k e } ∷
    [])

-- the steps that are made if these markers are to step, in this order
unfoldable pub made_by : Tables → List ℕ → Exchange → List Made
made_by plan [] e = []
made_by plan (k ∷ ks) e = made_at plan k e ++ made_by plan ks (after_step plan k e)

-- the number of the last of these steps, if this is the number of the step before them
unfoldable pub last_number : ℕ → List Made → ℕ
last_number number [] = number
last_number number (made ∷ later) = last_number (one_more number) later

-- the items of these steps, each with the next number
unfoldable pub made_items : Detail → ℕ → List Made → List Item
made_items detail number [] = []
made_items detail number (made ∷ later) =
    step_item detail (one_more number) made.marker made.observed made.records
    ∷ made_items detail (one_more number) later

-- the lines of these steps, each with the next number
unfoldable pub made_lines : ℕ → List Made → List ℕ
made_lines number [] = []
made_lines number (made ∷ later) =
    step_lines (one_more number) made.marker made.observed made.records
    ++ made_lines (one_more number) later

-- the objects of these steps, each in a line and with the next number
unfoldable pub made_objects : ℕ → List Made → List ℕ
made_objects number [] = []
made_objects number (made ∷ later) =
    step_object (one_more number) made.marker made.observed made.records ++ codes "\n"
    ++ made_objects (one_more number) later
