-- Who holds and who requests each connector, by the connectors' own words.
use Rattle.std.specs.Prelude.{ℕ, nat_lt, List, [], ◌∷◌, ◌++◌, codes, decimal, filter, flat_map, map, option_map, slice_index}
use Rattle.std.specs.List.{concat, range_with_len}
use Rattle.turns.specs.Sharing.{held_by}
use Rattle.turns.specs.Sharings.{preferring}
use Rattle.xbar_equip.specs.Word.{ConnWord, word_number}
use Rattle.xbar_equip.specs.declared.conn.Conn.{Conn}
use Rattle.xbar_equip.specs.declared.conn.Conn.TheVariants as conn
use Rattle.xbar_json.specs.Json.{array, value_or_null}
use Rattle.xbar_json.specs.Office.{conn_object}

-- all connectors: of ten line link frames, ten trunk link frames and sixteen groups
abbrev pub all_conns : List Conn
all_conns =
    map conn.Llf (range_with_len 0 10) ++ map conn.Tlf (range_with_len 0 10)
    ++ map conn.Group (range_with_len 0 16)

-- the markers that request a connector, by its word
abbrev pub requesters : ℕ → List ℕ
requesters word = filter (λ k. preferring.requests k word) (range_with_len 0 48)

-- a connector with its word's number, the marker that holds it, and those that request it
unfoldable pub connector_object : Conn → ℕ → List ℕ
connector_object conn word =
    concat (codes "{\"connector\":" ∷ conn_object conn
    ∷ codes ",\"word\":" ∷ decimal (word_number (ConnWord conn))
    ∷ codes ",\"holder\":" ∷ value_or_null (option_map decimal (held_by preferring word))
    ∷ codes ",\"requests\":" ∷ array (map decimal (requesters word)) ∷ codes "}" ∷ [])

-- the connectors that some marker holds or requests
abbrev pub connectors_in_use : List ℕ → List Conn
connectors_in_use words =
    filter (λ conn. nat_lt 0 (slice_index words (word_number (ConnWord conn)))) all_conns

unfoldable pub connector_objects : List ℕ → List (List ℕ)
connector_objects words =
    map (λ conn. connector_object conn (slice_index words (word_number (ConnWord conn))))
    (connectors_in_use words)
