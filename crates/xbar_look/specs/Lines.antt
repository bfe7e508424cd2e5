-- Markers as they stand, in words.
use Rattle.std.specs.Prelude.{ℕ, ◌+◌, Option, None, Some, List, [], ◌∷◌, ◌++◌, codes, decimal, flat_map, map}
use Rattle.std.specs.List.{concat}
use Rattle.turns.specs.Attempt.{request_in}
use Rattle.xbar_equip.specs.Path.{path_text}
use Rattle.xbar_equip.specs.declared.conn.Conn.{Conn}
use Rattle.xbar_equip.specs.declared.path.Path.{Path}
use Rattle.xbar_jobs.specs.Attempt.{effect_step, next_step}
use Rattle.xbar_jobs.specs.declared.program.Step.{Step}
use Rattle.xbar_moves.specs.Exchange.{Marker}
use Rattle.xbar_step_text.specs.Next.{next_words}
use Rattle.xbar_step_text.specs.Places.{conn_name}
use Rattle.xbar_step_text.specs.Words.{job_words}
use Rattle.xbar_look.specs.Jobs.{UnderWay, closed_of, paths_of, under_way, value_under}
use Rattle.xbar_look.specs.Markers.{kind_name}

-- a line below a marker's: what it says first, and what it says of that
abbrev pub line_below : List ℕ → List ℕ → List ℕ
line_below head text = concat (codes "  " ∷ head ∷ codes " " ∷ text ∷ codes "\n" ∷ [])

-- a line for each connector held, for the one that is requested, for each effect that is left, and
-- for each path that these close or open
unfoldable pub held_line : Conn → List ℕ
held_line conn = line_below (codes "holds") (conn_name conn)

unfoldable pub requested_lines : Option Conn → List ℕ
requested_lines None = []
requested_lines (Some conn) = line_below (codes "requests") (conn_name conn)

unfoldable pub next_line : List ℕ → Step → List ℕ
next_line words next = line_below (codes "next:") (next_words (value_under words next) next)

unfoldable pub effect_line : List ℕ → Step → List ℕ
effect_line words step = line_below (codes "left:") (next_words (value_under words step) step)

unfoldable pub part_line : List ℕ → Path → List ℕ
part_line words path =
    concat (codes "  path " ∷ path_text path ∷ codes ": " ∷ decimal (closed_of words path)
    ∷ codes " of 4 crosspoints closed\n" ∷ [])

unfoldable pub lines_below : List ℕ → UnderWay → List ℕ
lines_below words u =
    let a = u.attempt in
    next_line words (next_step a) ++ flat_map held_line a.held
    ++ requested_lines (request_in a.phase)
    ++ flat_map (λ effect. effect_line words (effect_step effect)) a.effects
    ++ flat_map (part_line words) (paths_of a.reply)

-- what marker k is at: its job, and the lines below; or that it is idle
unfoldable pub job_lines : List ℕ → Option UnderWay → List ℕ
job_lines words None = codes "idle\n"
job_lines words (Some u) =
    concat (codes "job " ∷ decimal u.number ∷ codes ", " ∷ job_words u.attempt.job ∷ codes "\n"
    ∷ lines_below words u ∷ [])

unfoldable pub marker_lines : List ℕ → ℕ → Marker → List ℕ
marker_lines words k m =
    concat (codes "marker " ∷ decimal k ∷ codes ", " ∷ kind_name m.kind ∷ codes ": "
    ∷ job_lines words (under_way m) ∷ [])

-- markers as they stand, numbered from k on
unfoldable pub markers_lines : List ℕ → ℕ → List Marker → List ℕ
markers_lines words k [] = []
markers_lines words k (m ∷ markers) = marker_lines words k m ++ markers_lines words (1 + k) markers
