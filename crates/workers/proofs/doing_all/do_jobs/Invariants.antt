use Rattle.std.proofs.Common.{◌≡◌, length, true}
use Rattle.{desks.specs.Views.IsDeskOf, turns.specs.{Runs.is_available, System.system_of}, workers.specs.Workers.{AreAssigned, IsLogOf}}
use Rattle.workers.proofs.doing_all.do_jobs.Given as goal

abbrev pub invariant-loop-ended : goal.invariant-loop-ended
invariant-loop-ended g l = record {
  desk : IsDeskOf l.shift.desk l.room l.setting;
  number : l.shift.desk.number ≡ l.fn.shift.desk.number;
  log : IsLogOf (system_of (g.F.Jobs.system l.setting)) l.shift.desk l.shift.log.items;
  assigned : AreAssigned (goal.N-post g l.next_job l.fn.shift.desk.number) l.shift.log.items;
  count : length l.shift.log.items ≡ l.ended;
  free : is_available (system_of (g.F.Jobs.system l.setting)) l.fn.shift.desk.actor ≡ true
      → is_available (system_of (g.F.Jobs.system l.setting)) l.shift.desk.actor ≡ true;
}
