use Rattle.std.proofs.Common.{◌≡◌, ◌-◌}
use Rattle.{turns.specs.System.system_of, desks.specs.{Running.HasRun, Views.IsDeskOf, Watching.watched_more}}
use Rattle.desks.proofs.desk.Desk.run_past_turn.Given as goal

abbrev pub invariant-loop-made : goal.invariant-loop-made
invariant-loop-made g l = record {
  desk_of : IsDeskOf l.self l.room l.setting;
  reported : g.W.Watch.steps_watched l.watch ≡ watched_more l.made (g.W.Watch.steps_watched l.fn.watch);
  run : HasRun (system_of (g.F.Jobs.system l.setting)) l.made l.fn.self l.self;
}

abbrev pub decreases-loop-made : goal.decreases-loop-made
decreases-loop-made g l = 4294967295 - l.made
