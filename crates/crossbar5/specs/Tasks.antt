use Rattle.std.specs.Prelude.{ℕ, List}
use Rattle.xbar_moves.specs.declared.kinds.Kind.{Kind}
use Rattle.xbar_plan.specs.Tables.{Tables}
use Rattle.crossbar5_task.specs.declared.task.Task.{Task}
use Rattle.crossbar5_task.specs.declared.task.Task.TheVariants.{Replay, Walk, Look, Audit, Draw}
use Rattle.crossbar5.specs.Audit.{IsAuditUnder}
use Rattle.crossbar5.specs.Draw.{IsDrawUnder}
use Rattle.crossbar5.specs.Look.{IsLookUnder}
use Rattle.crossbar5.specs.PlanRefusal.{IsAnswerOf, PlanRead}
use Rattle.crossbar5.specs.Run.{IsReplayUnder}
use Rattle.crossbar5.specs.Walk.{IsWalkUnder, detail_of}
use Rattle.crossbar5.specs.declared.written.Status.{Status}

-- under a plan's tables, the text and the status are those of the task on this input, with markers
-- of these kinds if it needs markers
abbrev pub IsDoneUnder : Task → List Kind → Tables → List ℕ → List ℕ → Status → Type 0
IsDoneUnder Replay kinds plan input text status = IsReplayUnder plan kinds input text status
IsDoneUnder (Walk form) kinds plan input text status =
    IsWalkUnder (detail_of form) plan kinds input text status
IsDoneUnder (Look form) kinds plan input text status =
    IsLookUnder form plan kinds input text status
IsDoneUnder Audit kinds plan input text status = IsAuditUnder plan input text status
IsDoneUnder (Draw form) kinds plan input text status = IsDrawUnder form plan input text status

-- the same with a plan as it was read
abbrev pub IsDone : Task → List Kind → PlanRead → List ℕ → List ℕ → Status → Type 0
IsDone task kinds plan input text status =
    IsAnswerOf (IsDoneUnder task kinds) plan input text status
