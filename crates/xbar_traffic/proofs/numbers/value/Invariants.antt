use Rattle.std.proofs.Common.{◌≡◌, ◌≤◌, take}
use Rattle.std.specs.Str.Parse.{AllDigits, digits_value}
use Rattle.xbar_traffic.proofs.numbers.value.Given as goal

-- the number so far is that of the digits so far
abbrev pub invariant-loop-byte : goal.invariant-loop-byte
invariant-loop-byte l = record {
  digits : AllDigits 10 (take l.byte-index l.digits);
  value : l.number ≡ digits_value 10 (take l.byte-index l.digits);
  small : l.number ≤ l.limit;
}
