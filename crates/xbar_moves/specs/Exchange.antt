use Rattle.std.specs.Prelude.{ℕ, Bool, true, Option, Some, None, List, [], map, replicate}
use Rattle.turns.specs.Law.{Lawful}
use Rattle.turns.specs.World as worlds
use Rattle.turns.specs.Attempt.{act}
use Rattle.turns.specs.Runs.{is_finished}
use Rattle.xbar_equip.specs.Word.{word_count}
use Rattle.xbar_equip.specs.declared.conn.Conn.{Conn}
use Rattle.xbar_plan.specs.Tables.{Tables}
use Rattle.xbar_office.specs.declared.job.Job.{Job}
use Rattle.xbar_office.specs.declared.reply.Record.{Record}
use Rattle.xbar_office.specs.declared.reply.Reply.{Reply}
use Rattle.xbar_jobs.specs.Attempt.{Attempt}
use Rattle.xbar_jobs.specs.Office.{office}
use Rattle.xbar_jobs.specs.declared.effect.Effect.{Effect}
use Rattle.xbar_moves.specs.declared.kinds.Kind.{Kind}

-- a marker's work: none, or the number of a job that was assigned to it, with its attempt
abbrev pub Work : Type 0
Work = worlds.Actor Conn Job Reply Effect

-- a marker is idle before its first job, and once nothing is left of its job
abbrev pub is_idle : Work → Bool
is_idle worlds.Idle = true
is_idle (worlds.Does number a) = is_finished (act a)

-- a marker: which jobs it takes, and its work
pub record Marker : Type 0 where
  pub kind : Kind
  pub work : Work

-- a value taken from a marker, or another one if no marker has the number
abbrev pub at_marker {ℓ} : {A : Type ℓ} → A → (Marker → A) → Option Marker → A
at_marker otherwise of_marker None = otherwise
at_marker otherwise of_marker (Some m) = of_marker m

-- a value taken from a marker's job, or another one if it has none
abbrev pub on_job {ℓ} : {A : Type ℓ} → A → (ℕ → Attempt → A) → Work → A
on_job otherwise of_job worlds.Idle = otherwise
on_job otherwise of_job (worlds.Does number a) = of_job number a

-- an office of many markers: its words, its markers in the order of their numbers, and the records
-- of the jobs that have turned, in turn order
pub record Exchange : Type 0 where
  pub words : List ℕ
  pub markers : List Marker
  pub records : List Record

-- an office opens with all words 0 and all markers idle
abbrev pub fresh_exchange : List Kind → Exchange
fresh_exchange kinds = record {
  words = replicate word_count 0;
  markers = map (λ kind. record { kind = kind; work = worlds.Idle }) kinds;
  records = [];
}

-- the record of a turn in the form of `turns`
abbrev pub turned : Record → worlds.Record Job Reply
turned r = record {
  turn = r.turn;
  actor = r.marker;
  number = r.job_no;
  job = r.job;
  reply = r.reply;
}

-- the office as a world of `turns`: its markers are the actors, at the jobs of its plan
abbrev pub world : (plan : Tables) → Exchange → worlds.World (office plan)
world plan e = record {
  words = e.words;
  actors = map (λ m. m.work) e.markers;
  order = map turned e.records;
}

-- the office is lawful: its world satisfies the invariant
abbrev pub IsLawfulExchange : Tables → Exchange → Type 0
IsLawfulExchange plan e = Lawful (office plan) (world plan e)

-- an office under its plan
pub record OfPlan : Type 0 where
  pub plan : Tables
  pub exchange : Exchange
