-- Markers as they stand, as JSON objects.
use Rattle.std.specs.Prelude.{ℕ, ◌+◌, Option, None, Some, List, [], ◌∷◌, codes, decimal, map, option_map}
use Rattle.std.specs.List.{concat}
use Rattle.turns.specs.Attempt.{request_in, turn_in}
use Rattle.xbar_equip.specs.Path.{path_text}
use Rattle.xbar_equip.specs.declared.path.Path.{Path}
use Rattle.xbar_json.specs.Json.{array, quoted, value_or_null}
use Rattle.xbar_json.specs.Office.{conn_object, job_object}
use Rattle.xbar_jobs.specs.Attempt.{effect_step, next_step}
use Rattle.xbar_jobs.specs.declared.effect.Effect.{Effect}
use Rattle.xbar_jobs.specs.declared.program.Step.{Step}
use Rattle.xbar_moves.specs.Exchange.{Marker}
use Rattle.xbar_moves.specs.declared.kinds.Kind.{Kind}
use Rattle.xbar_moves.specs.declared.kinds.Kind.TheVariants as kind
use Rattle.xbar_step_text.specs.Next.{next_object}
use Rattle.xbar_look.specs.Jobs.{UnderWay, closed_of, paths_of, under_way, value_under}

-- the name of a kind of marker
abbrev pub kind_name : Kind → List ℕ
kind_name kind.Dial = codes "dial tone"
kind_name kind.Completing = codes "completing"
kind_name kind.Combined = codes "combined"

-- a step that is yet to be made, by the present value of its word
abbrev pub step_to_make : List ℕ → Step → List ℕ
step_to_make words next = next_object (value_under words next) next

-- a path with the number of its crosspoints that are closed: {"path":"3041-0-417","closed":2}
unfoldable pub part_object : List ℕ → Path → List ℕ
part_object words path =
    concat (codes "{\"path\":\"" ∷ path_text path ∷ codes "\",\"closed\":"
    ∷ decimal (closed_of words path) ∷ codes "}" ∷ [])

-- what an idle marker is at, and what a marker is at that has a job: the job, its turn, the next
-- step, the connectors held and requested, the effects that are left, and the paths that these
-- close or open
unfoldable pub idle_members : List ℕ
idle_members =
    codes "\"job\":null,\"turn\":null,\"next\":null,\"held\":[],\"requested\":null,\"effects\":[],\"paths\":[]"

unfoldable pub job_members : List ℕ → UnderWay → List ℕ
job_members words u =
    let a = u.attempt in
    concat (codes "\"job\":" ∷ job_object u.number a.job
    ∷ codes ",\"turn\":" ∷ value_or_null (option_map decimal (turn_in a.phase))
    ∷ codes ",\"next\":" ∷ step_to_make words (next_step a)
    ∷ codes ",\"held\":" ∷ array (map conn_object a.held)
    ∷ codes ",\"requested\":" ∷ value_or_null (option_map conn_object (request_in a.phase))
    ∷ codes ",\"effects\":"
    ∷ array (map (λ effect. step_to_make words (effect_step effect)) a.effects)
    ∷ codes ",\"paths\":" ∷ array (map (part_object words) (paths_of a.reply)) ∷ [])

abbrev pub members_of : List ℕ → Option UnderWay → List ℕ
members_of words None = idle_members
members_of words (Some u) = job_members words u

-- marker k as it stands
unfoldable pub marker_object : List ℕ → ℕ → Marker → List ℕ
marker_object words k m =
    concat (codes "{\"marker\":" ∷ decimal k ∷ codes ",\"kind\":\"" ∷ kind_name m.kind
    ∷ codes "\"," ∷ members_of words (under_way m) ∷ codes "}" ∷ [])

-- markers as they stand, numbered from k on
unfoldable pub marker_objects : List ℕ → ℕ → List Marker → List (List ℕ)
marker_objects words k [] = []
marker_objects words k (m ∷ markers) =
    marker_object words k m ∷ marker_objects words (1 + k) markers
