-- Connectors, jobs and records as JSON.
use Rattle.std.specs.Prelude.{ℕ, Option, Some, List, [], ◌∷◌, codes, decimal, map, option_map}
use Rattle.std.specs.List.{concat}
use Rattle.xbar_equip.specs.Dialled.{dialled_text}
use Rattle.xbar_equip.specs.Len.{line_text}
use Rattle.xbar_equip.specs.Link.{link_text}
use Rattle.xbar_equip.specs.Path.{path_text}
use Rattle.xbar_equip.specs.declared.conn.Conn.{Conn}
use Rattle.xbar_equip.specs.declared.conn.Conn.TheVariants as conn
use Rattle.xbar_equip.specs.declared.path.Path.{Path}
use Rattle.xbar_office.specs.declared.job.Job.{Job}
use Rattle.xbar_office.specs.declared.job.Job.TheVariants.{Dial, Complete, Release}
use Rattle.xbar_office.specs.declared.reply.Card.{Card}
use Rattle.xbar_office.specs.declared.reply.End.{End}
use Rattle.xbar_office.specs.declared.reply.End.TheVariants.{DialTone, Connected, Released}
use Rattle.xbar_office.specs.declared.reply.Record.{Record}
use Rattle.xbar_report.specs.Parts.{end_name}
use Rattle.xbar_json.specs.Json.{array, quoted, value_or_null}

-- a connector, by what it locks: {"kind":"line link frame","number":3}
unfoldable pub conn_object : Conn → List ℕ
conn_object (conn.Llf frame) =
    concat (codes "{\"kind\":\"line link frame\",\"number\":" ∷ decimal frame ∷ codes "}" ∷ [])
conn_object (conn.Tlf frame) =
    concat (codes "{\"kind\":\"trunk link frame\",\"number\":" ∷ decimal frame ∷ codes "}" ∷ [])
conn_object (conn.Group group) =
    concat (codes "{\"kind\":\"group\",\"number\":" ∷ decimal group ∷ codes "}" ∷ [])

-- a path as a string, or null
abbrev pub path_value : Option Path → List ℕ
path_value path = value_or_null (option_map (λ path. quoted (path_text path)) path)

-- what a job asks for: its kind, its line, and the dialled digits or null
unfoldable pub job_members : Job → List ℕ
job_members (Dial line) =
    concat (codes "\"kind\":\"D\",\"line\":\"" ∷ line_text line ∷ codes "\",\"dialled\":null" ∷ [])
job_members (Complete line dialled) =
    concat (codes "\"kind\":\"C\",\"line\":\"" ∷ line_text line ∷ codes "\",\"dialled\":\""
    ∷ dialled_text dialled ∷ codes "\"" ∷ [])
job_members (Release line) =
    concat (codes "\"kind\":\"R\",\"line\":\"" ∷ line_text line ∷ codes "\",\"dialled\":null" ∷ [])

-- a job under its number: {"number":1,"kind":"D","line":"3041","dialled":null}
unfoldable pub job_object : ℕ → Job → List ℕ
job_object number job =
    concat (codes "{\"number\":" ∷ decimal number ∷ codes "," ∷ job_members job ∷ codes "}" ∷ [])

-- a trouble card: {"trial":1,"link":"JU340"}
unfoldable pub card_object : Card → List ℕ
card_object card =
    concat (codes "{\"trial\":" ∷ decimal card.trial ∷ codes ",\"link\":\"" ∷ link_text card.link
    ∷ codes "\"}" ∷ [])

-- the trial of an end, its own path and the other party's, each of them a number, a string or null
abbrev pub end_values : List ℕ → List ℕ → List ℕ → List ℕ
end_values trial path other =
    concat (codes ",\"trial\":" ∷ trial ∷ codes ",\"path\":" ∷ path ∷ codes ",\"other\":" ∷ other
    ∷ [])

-- how a job ended: the name that records have for it, and these values
unfoldable pub end_members : End → List ℕ
end_members end = concat (codes "\"end\":\"" ∷ end_name end ∷ codes "\"" ∷ values end ∷ []) where
  values : End → List ℕ
  values (DialTone path trial) = end_values (decimal trial) (path_value (Some path)) (codes "null")
  values (Connected calling called trial) =
      end_values (decimal trial) (path_value (Some calling)) (path_value called)
  values (Released own other) =
      end_values (codes "null") (path_value (Some own)) (path_value other)
  values _ = end_values (codes "null") (codes "null") (codes "null")

-- a record: its turn, its marker, its job, how that ended, and its trouble cards
unfoldable pub record_object : Record → List ℕ
record_object r =
    concat (codes "{\"turn\":" ∷ decimal r.turn ∷ codes ",\"marker\":" ∷ decimal r.marker
    ∷ codes ",\"job\":" ∷ job_object r.job_no r.job ∷ codes "," ∷ end_members r.reply.end
    ∷ codes ",\"cards\":" ∷ array (map card_object r.reply.cards) ∷ codes "}" ∷ [])
