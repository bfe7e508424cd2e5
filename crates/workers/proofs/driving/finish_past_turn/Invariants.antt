use Rattle.{std.specs.Prelude.None, desks.specs.{Running.IsOperating, Views.IsDeskOf}, turns.specs.System.system_of, workers.specs.Workers.HasFinished}
use Rattle.workers.proofs.Trying.{left_past_turn}
use Rattle.workers.proofs.driving.finish_past_turn.Given as goal

abbrev pub invariant-loop-desk : goal.invariant-loop-desk
invariant-loop-desk g l = record {
  desk_of : IsDeskOf l.desk l.room l.setting;
  finished : HasFinished (system_of (g.F.Jobs.system l.setting)) l.fn.desk l.desk None;
  operates : IsOperating l.fn.desk.actor → IsOperating l.desk.actor;
}

abbrev pub decreases-loop-desk : goal.decreases-loop-desk
decreases-loop-desk g l = left_past_turn (system_of (g.F.Jobs.system l.setting)) l.desk.actor
