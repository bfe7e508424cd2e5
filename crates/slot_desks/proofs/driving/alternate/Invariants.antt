use Rattle.std.proofs.Common.{◌≡◌}
use Rattle.desks.specs.Views.{IsDeskOf}
use Rattle.slot_desks.proofs.driving.alternate.Given as goal

abbrev pub invariant-loop-number : goal.invariant-loop-number
invariant-loop-number l = record {
  one : IsDeskOf l.one l.room tt;
  other : IsDeskOf l.other l.room tt;
  numbers : (l.one.number ≡ l.fn.one.number) × (l.other.number ≡ l.fn.other.number);
}
