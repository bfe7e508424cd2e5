use Rattle.std.proofs.Common.{◌≡◌}
use Rattle.{bank.specs.System.bank, desks.specs.Views.IsDeskOf, workers.specs.Workers.IsLogOf}
use Rattle.law_tests.proofs.bank_at_work.serve.Given as goal

abbrev pub invariant-loop-round : goal.invariant-loop-round
invariant-loop-round l = record {
  desk : IsDeskOf l.shift.desk l.room l.opening;
  number : l.shift.desk.number ≡ l.fn.shift.desk.number;
  log : IsLogOf (bank l.opening) l.shift.desk l.shift.log.items;
}
