use Rattle.std.specs.Prelude.{ℕ, Option, Some, None, [], ◌∷◌, ⊤}
use Rattle.xbar_equip.specs.Len.{Line}
use Rattle.xbar_equip.specs.declared.conn.Conn.{Conn}
use Rattle.xbar_equip.specs.declared.conn.Conn.TheVariants.{Llf}
use Rattle.xbar_plan.specs.Tables.{Tables, register_group}
use Rattle.xbar_office.specs.declared.job.Job.{Job}
use Rattle.xbar_office.specs.declared.job.Job.TheVariants.{Dial, Complete, Release}
use Rattle.xbar_office.specs.declared.aim.Aim.TheVariants.{DialTone}
use Rattle.xbar_office.specs.declared.reply.End.TheVariants.{LineBusy}
use Rattle.turns.specs.Script.{Ends, ◌>>=◌}
use Rattle.xbar_jobs.specs.Closing.{refused}
use Rattle.xbar_jobs.specs.Completing.{complete_steps}
use Rattle.xbar_jobs.specs.Connecting.{alone, connect}
use Rattle.xbar_jobs.specs.Releasing.{release_steps}
use Rattle.xbar_jobs.specs.Script.{Script}
use Rattle.xbar_jobs.specs.Tracing.{approach, channel_of}
use Rattle.xbar_jobs.specs.declared.decision.Decision.{Decision}
use Rattle.xbar_jobs.specs.declared.party.Party.{Party}
use Rattle.xbar_jobs.specs.declared.walk.WalkProgress.{WalkProgress}
use Rattle.xbar_jobs.specs.declared.walk.WalkProgress.TheVariants.{Begun, Approached, Traced}

-- a line that has a path is busy; any other is joined to a register
unfoldable pub serve_idle_line : Tables → Party → Option ℕ → Script Decision
serve_idle_line plan calling (Some channel) = Ends (refused LineBusy)
serve_idle_line plan calling None = connect plan DialTone (alone calling) (register_group plan ∷ [])

-- a dial tone job: approach the line, and look whether it has a path
unfoldable pub dial_steps : Tables → Line → Script Decision
dial_steps plan line = do
  calling ← approach line
  serve_idle_line plan calling (channel_of calling)

-- the line of a job
abbrev pub job_line : Job → Line
job_line (Dial line) = line
job_line (Complete line dialled) = line
job_line (Release line) = line

-- the connector that a job seizes first
abbrev pub first_conn : Job → Conn
first_conn job = Llf (job_line job).frame

-- what a marker does for a job until it can decide
unfoldable pub script : Tables → Job → Script Decision
script plan (Dial line) = dial_steps plan line
script plan (Complete line dialled) = complete_steps plan line dialled
script plan (Release line) = release_steps plan line

-- from this resume point on, a job tests line junctor switches only in whole rows: a dial tone job
-- always, a completing one once the line's own path was traced
abbrev pub TestsRows : Job → WalkProgress → Type 0
TestsRows (Dial line) point = ⊤
TestsRows (Complete line dialled) Begun = ⊥
TestsRows (Complete line dialled) (Approached calling) = ⊥
TestsRows (Complete line dialled) (Traced calling own) = ⊤
TestsRows (Release line) point = ⊥
