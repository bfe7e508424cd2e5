use Rattle.std.proofs.Common.{◌≡◌, []}
use Rattle.{desks.specs.Views.IsDeskOf, slot_desks.specs.{Driving.{AreRounds, IsFree}, Ended.GivesOwn}, slots.specs.System.slots}
use Rattle.workers.specs.Workers.{IsLogOf, records}
use Rattle.slot_desks.proofs.driving.take_and_give.Given as goal

abbrev pub invariant-loop-round : goal.invariant-loop-round
invariant-loop-round l = record {
  desk : IsDeskOf l.shift.desk l.room tt;
  log : IsLogOf slots l.shift.desk l.shift.log.items;
  own : GivesOwn [] (records l.shift.log.items);
  number : l.shift.desk.number ≡ l.fn.shift.desk.number;
  free : IsFree l.fn.shift.desk → IsFree l.shift.desk;
  done : l.fn.shift.log.items ≡ [] → AreRounds l.round l.shift.log.items;
}
