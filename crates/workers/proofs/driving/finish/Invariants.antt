use Rattle.{std.specs.Prelude.None, desks.specs.Views.IsDeskOf, turns.specs.System.system_of, workers.specs.{Tries.HasGoneOn, Workers.HasFinished}}
use Rattle.workers.proofs.driving.finish.Given as goal

abbrev pub invariant-loop : goal.invariant-loop
invariant-loop g l = record {
  desk : IsDeskOf l.desk l.room l.setting;
  finished : HasFinished (system_of (g.F.Jobs.system l.setting)) l.fn.desk l.desk None;
  gone_on : HasGoneOn (system_of (g.F.Jobs.system l.setting)) l.counter l.fn.desk l.desk;
}
