-- Steps as JSON objects.
use Rattle.std.specs.Prelude.{ℕ, List, [], ◌∷◌, codes, decimal, filter, map}
use Rattle.std.specs.List.{concat, range_with_len}
use Rattle.xbar_office.specs.declared.job.Job.{Job}
use Rattle.xbar_office.specs.declared.reply.Record.{Record}
use Rattle.xbar_json.specs.Json.{array, quoted}
use Rattle.xbar_json.specs.Office.{conn_object, job_object, record_object}
use Rattle.xbar_jobs.specs.OnWords.{step_word}
use Rattle.xbar_jobs.specs.declared.program.Step.{Step}
use Rattle.xbar_jobs.specs.declared.program.Step.TheVariants as step
use Rattle.xbar_moves.specs.declared.event.Event.{Event}
use Rattle.xbar_moves.specs.declared.event.Event.TheVariants as event
use Rattle.xbar_step_text.specs.Places.{place_of}
use Rattle.xbar_step_text.specs.Shown.{held_at, is_shown, item_at, positions}
use Rattle.xbar_step_text.specs.Words.{cleared_by, job_words, step_words}
use Rattle.xbar_step_text.specs.declared.observation.Observation.{Observation}
use Rattle.xbar_step_text.specs.declared.place.Place.{Place}
use Rattle.xbar_step_text.specs.declared.place.Place.TheVariants.{LineSwitch, LineJunctor, TrunkSwitch, TrunkJunctor, Group, Other}

-- the name of a kind of step
abbrev pub act_name : Step → List ℕ
act_name (step.Request conn) = codes "request"
act_name (step.Seize conn expected) = codes "seize"
act_name (step.Withdraw conn) = codes "withdraw"
act_name (step.Test word) = codes "test"
act_name step.Turn = codes "turn"
act_name (step.Close word bits) = codes "close"
act_name (step.Open word mask) = codes "open"
act_name (step.Free conn) = codes "free"
act_name step.Finished = codes "none"

-- a switch: {"kind":"line switch","frame":3,"number":0}
abbrev pub switch_object : List ℕ → ℕ → ℕ → List ℕ
switch_object kind frame number =
    concat (codes "{\"kind\":\"" ∷ kind ∷ codes "\",\"frame\":" ∷ decimal frame
    ∷ codes ",\"number\":" ∷ decimal number ∷ codes "}" ∷ [])

-- a place: a switch, a group, or another word
unfoldable pub place_object : Place → List ℕ
place_object (LineSwitch frame switch) = switch_object (codes "line switch") frame switch
place_object (LineJunctor frame channel) = switch_object (codes "line junctor switch") frame channel
place_object (TrunkSwitch frame switch) = switch_object (codes "trunk switch") frame switch
place_object (TrunkJunctor frame channel) =
    switch_object (codes "trunk junctor switch") frame channel
place_object (Group group) =
    concat (codes "{\"kind\":\"group\",\"number\":" ∷ decimal group ∷ codes "}" ∷ [])
place_object (Other word) =
    concat (codes "{\"kind\":\"word\",\"number\":" ∷ decimal word ∷ codes "}" ∷ [])

-- what a step acts on: a connector, a switch or a group; null for a turn
unfoldable pub object_of : Step → List ℕ
object_of (step.Request conn) = conn_object conn
object_of (step.Seize conn expected) = conn_object conn
object_of (step.Withdraw conn) = conn_object conn
object_of (step.Test word) = place_object (place_of word)
object_of step.Turn = codes "null"
object_of (step.Close word bits) = place_object (place_of word)
object_of (step.Open word mask) = place_object (place_of word)
object_of (step.Free conn) = conn_object conn
object_of step.Finished = codes "null"

-- a closed field with what it joins: {"field":0,"value":22,"name":"line 3041 and LL300"}. Of a
-- group's word, a field is a member's bit, and the name is the member's index
unfoldable pub item_object : Place → ℕ → ℕ → List ℕ
item_object place word position =
    concat (codes "{\"field\":" ∷ decimal position ∷ codes ",\"value\":"
    ∷ decimal (held_at place word position) ∷ codes ",\"name\":\"" ∷ item_at place word position
    ∷ codes "\"}" ∷ [])

-- all that a word shows
unfoldable pub items_array : Place → ℕ → List ℕ
items_array place word =
    array (map (item_object place word)
    (filter (is_shown place word) (range_with_len 0 (positions place))))

-- a word with all that it shows
unfoldable pub shown_object : ℕ → ℕ → List ℕ
shown_object number word =
    concat (codes "{\"word\":" ∷ decimal number ∷ codes ",\"object\":"
    ∷ place_object (place_of number) ∷ codes ",\"items\":" ∷ items_array (place_of number) word
    ∷ codes "}" ∷ [])

-- the fields that a step finds closed, closes or opens, by the value that it finds in its word
unfoldable pub step_items : ℕ → Step → List ℕ
step_items found (step.Test word) = items_array (place_of word) found
step_items found (step.Close word bits) = items_array (place_of word) bits
step_items found (step.Open word mask) = items_array (place_of word) (cleared_by found mask)
step_items found _ = codes "[]"

-- the value that a test or an opening found in its word, as a string, since a JSON number may lose
-- some of 64 bits
unfoldable pub found_value : ℕ → Step → List ℕ
found_value found (step.Test word) = quoted (decimal found)
found_value found (step.Open word mask) = quoted (decimal found)
found_value found _ = codes "null"

-- the marker that holds the connector that a step was denied, and the one that is preferred
unfoldable pub holder_value : Event → List ℕ
holder_value (event.Refused conn holder) = decimal holder
holder_value _ = codes "null"

unfoldable pub preferred_value : Event → List ℕ
preferred_value (event.Preferred other) = decimal other
preferred_value _ = codes "null"

-- the number of a turn, and the record that it adds
unfoldable pub turn_value : List Record → List ℕ
turn_value [] = codes "null"
turn_value (r ∷ records) = decimal r.turn

unfoldable pub record_value : List Record → List ℕ
record_value [] = codes "null"
record_value (r ∷ records) = record_object r

-- the number of the job that a step ends
unfoldable pub ended_value : Event → List ℕ
ended_value (event.Finished r) = decimal r.job_no
ended_value _ = codes "null"

-- a marker's step: its number, the marker, what kind of step it is, what it acts on, its word, what
-- it found there, why it was denied, its turn and record, the job that it ends, and the words that
-- describe it
unfoldable pub step_object : ℕ → ℕ → Observation → List Record → List ℕ
step_object number marker observed records =
    concat (codes "{\"event\":\"step\",\"step\":" ∷ decimal number
    ∷ codes ",\"marker\":" ∷ decimal marker
    ∷ codes ",\"act\":\"" ∷ act_name observed.step
    ∷ codes "\",\"object\":" ∷ object_of observed.step
    ∷ codes ",\"word\":" ∷ decimal (step_word observed.step)
    ∷ codes ",\"found\":" ∷ found_value observed.found observed.step
    ∷ codes ",\"items\":" ∷ step_items observed.found observed.step
    ∷ codes ",\"holder\":" ∷ holder_value observed.event
    ∷ codes ",\"preferred\":" ∷ preferred_value observed.event
    ∷ codes ",\"turn\":" ∷ turn_value records
    ∷ codes ",\"record\":" ∷ record_value records
    ∷ codes ",\"ended\":" ∷ ended_value observed.event
    ∷ codes ",\"says\":\"" ∷ step_words observed records ∷ codes "\"}" ∷ [])

-- the assignment of a job to a marker
unfoldable pub assignment_object : ℕ → ℕ → Job → List ℕ
assignment_object marker job_no job =
    concat (codes "{\"event\":\"assignment\",\"marker\":" ∷ decimal marker
    ∷ codes ",\"job\":" ∷ job_object job_no job
    ∷ codes ",\"says\":\"is given job " ∷ decimal job_no ∷ codes ": " ∷ job_words job
    ∷ codes "\"}" ∷ [])

-- no row is left
unfoldable pub settling_object : List ℕ
settling_object =
    codes "{\"event\":\"settling\",\"says\":\"the rows are done, and the office settles\"}"
