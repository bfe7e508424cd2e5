-- What a marker is at, as it stands.
use Rattle.std.specs.Prelude.{ℕ, ◌==◌, Option, None, Some, List, [], ◌∷◌, option_to_list, slice_index, if◌then◌else◌}
use Rattle.std.specs.List.{count_by}
use Rattle.turns.specs.Attempt.{request_in}
use Rattle.xbar_equip.specs.Crosspoint.{crosspoints}
use Rattle.xbar_equip.specs.declared.conn.Conn.{Conn}
use Rattle.xbar_equip.specs.declared.path.Path.{Path}
use Rattle.xbar_match.specs.Switches.{held_at}
use Rattle.xbar_office.specs.declared.reply.End.{End}
use Rattle.xbar_office.specs.declared.reply.End.TheVariants.{DialTone, Connected, Released}
use Rattle.xbar_office.specs.declared.reply.Reply.{Reply}
use Rattle.xbar_jobs.specs.Attempt.{Attempt, next_step}
use Rattle.xbar_jobs.specs.OnWords.{step_word}
use Rattle.xbar_jobs.specs.declared.program.Step.{Step}
use Rattle.xbar_moves.specs.Exchange.{Marker, is_idle, on_job}
use Rattle.xbar_core.specs.declared.work.Work.{Work}
use Rattle.xbar_look.specs.declared.job_paths.JobPaths.{JobPaths}

-- a job under way: its number, and the marker's attempt at it
pub record UnderWay : Type 0 where
  pub number : ℕ
  pub attempt : Attempt

-- a marker's job, unless the marker is idle
abbrev pub under_way : Marker → Option UnderWay
under_way m =
    if is_idle m.work then None
    else on_job None (λ number a. Some (record { number = number; attempt = a })) m.work

-- the same of a marker's work as the code has it
abbrev pub job_at : Work → UnderWay
job_at work = record { number = work.job_no; attempt = work.program.attempt }

-- the connectors that a marker holds for its job
abbrev pub held_for : Option UnderWay → List Conn
held_for None = []
held_for (Some u) = u.attempt.held

-- the connector that it requests for its job
abbrev pub requested_for : Option UnderWay → Option Conn
requested_for None = None
requested_for (Some u) = request_in u.attempt.phase

-- the present value of the word that a step is made on
abbrev pub value_under : List ℕ → Step → ℕ
value_under words next = slice_index words (step_word next)

-- the paths that a job takes or lets go
abbrev pub paths_of_end : End → List Path
paths_of_end (DialTone path trial) = path ∷ []
paths_of_end (Connected calling called trial) = calling ∷ option_to_list called
paths_of_end (Released own other) = own ∷ option_to_list other
paths_of_end _ = []

abbrev pub paths_of : Option Reply → List Path
paths_of None = []
paths_of (Some reply) = paths_of_end reply.end

-- how many of a path's four crosspoints are closed, each at the path's own place
abbrev pub closed_of : List ℕ → Path → ℕ
closed_of words path =
    count_by (λ c. held_at words c.word c.field == c.value) (crosspoints path)

-- the paths of a job as the code has them
abbrev pub paths_in : Option JobPaths → List Path
paths_in None = []
paths_in (Some paths) = paths.own ∷ option_to_list paths.other
