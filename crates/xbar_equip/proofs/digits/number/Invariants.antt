use Rattle.std.proofs.Common.{◌≡◌, ◌<◌, ◌^◌, true, take}
use Rattle.xbar_equip.specs.Digits.{digits, are_digits}
use Rattle.xbar_equip.proofs.digits.number.Given as goal

abbrev pub invariant-loop-byte : goal.invariant-loop-byte
invariant-loop-byte l = record {
  fits : l.number < 10 ^ l.byte-index;
  written : take l.byte-index l.text ≡ digits l.byte-index l.number;
  tested : are_digits (take l.byte-index l.text) ≡ true;
}
