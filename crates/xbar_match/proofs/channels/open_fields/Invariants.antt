use Rattle.std.proofs.Common.{◌≡◌, ℕ, ◌^◌, ◌<◌, ◌==◌, if◌then◌else◌}
use Rattle.{std.specs.Int.bit_at, xbar_switch.specs.Field.field_of}
use Rattle.xbar_match.proofs.channels.open_fields.Given as goal

abbrev pub invariant-loop-n : goal.invariant-loop-n
invariant-loop-n l = record {
  fields : (j : ℕ) → j < l.n → bit_at l.open j ≡ (if field_of l.shape l.word j == 0 then 1 else 0);
  others : l.open < 2 ^ l.n;
}
