use Rattle.std.proofs.Common.{◌≡◌, ℕ}
use Rattle.{csv.specs.Reading.strip_bom, xbar_traffic.{specs.{Numbers.contains, Traffic.is_in_rows}, proofs.UnderWay.IsUnderWay}}
use Rattle.xbar_traffic.proofs.traffic.Traffic.read.Given as goal

abbrev pub invariant-loop-row : goal.invariant-loop-row
invariant-loop-row l =
    record {
      reading : IsUnderWay l.fn.mode (strip_bom l.fn.bytes) l.reader l.rows.items;
      numbers : (number : ℕ) → contains l.numbers number ≡ is_in_rows l.rows.items number;
    }
