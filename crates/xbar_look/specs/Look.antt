-- An office as it stands between two steps, as one JSON object and in words.
use Rattle.std.specs.Prelude.{ℕ, ◌+◌, nat_lt, List, [], ◌∷◌, ◌++◌, codes, decimal, filter, flat_map, map, slice_index}
use Rattle.std.specs.List.{concat, range_with_len}
use Rattle.xbar_json.specs.Json.{array, quoted}
use Rattle.xbar_json.specs.Office.{record_object}
use Rattle.xbar_json.specs.Plan.{plan_object}
use Rattle.xbar_match.specs.Counts.{closed_line_fields, closed_switch_fields}
use Rattle.xbar_moves.specs.Exchange.{Exchange, OfPlan}
use Rattle.xbar_report.specs.Text.{report_text}
use Rattle.xbar_step_text.specs.Objects.{shown_object}
use Rattle.xbar_look.specs.Connectors.{connector_objects}
use Rattle.xbar_look.specs.Lines.{markers_lines}
use Rattle.xbar_look.specs.Markers.{marker_objects}

-- the switches' and groups' words that show something: a closed field, or a busy member
abbrev pub showing_words : List ℕ → List ℕ
showing_words words = filter (λ n. nat_lt 0 (slice_index words n)) (range_with_len 0 416)

unfoldable pub shown_objects : List ℕ → List (List ℕ)
shown_objects words = map (λ n. shown_object n (slice_index words n)) (showing_words words)

-- the office under its plan as it stands: the plan, the markers, the connectors in use, what
-- switches and groups show, the records so far, all words as strings, and these events
unfoldable pub look_object : OfPlan → List ℕ → List ℕ
look_object office events =
    let e = office.exchange in
    concat (codes "{\"plan\":" ∷ plan_object office.plan
    ∷ codes ",\"markers\":" ∷ array (marker_objects e.words 0 e.markers)
    ∷ codes ",\"connectors\":" ∷ array (connector_objects e.words)
    ∷ codes ",\"shown\":" ∷ array (shown_objects e.words)
    ∷ codes ",\"records\":" ∷ array (map record_object e.records)
    ∷ codes ",\"words\":" ∷ array (map (λ word. quoted (decimal word)) e.words)
    ∷ codes ",\"events\":[" ∷ events ∷ codes "]}\n" ∷ [])

-- the office as it stands, in words: its markers, and then what a report says of its records and
-- of the paths and crosspoints that are closed
unfoldable pub look_words : Exchange → List ℕ
look_words e =
    markers_lines e.words 0 e.markers
    ++ report_text e.records (closed_line_fields e.words) (closed_switch_fields e.words)
