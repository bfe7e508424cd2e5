use Rattle.std.proofs.Common.{◌≡◌, ◌*◌, ◌/◌, ◌%◌, ◌≤◌}
use Rattle.{xbar_equip.specs.Word.LineSwitch, xbar_switch.specs.declared.shape.Shape.TheVariants.Line}
use Rattle.xbar_match.specs.{Switches.word_of, Counts.{sum_below, closed_fields}}
use Rattle.xbar_match.proofs.counts.count_line_fields.Given as goal

abbrev pub invariant-loop-k : goal.invariant-loop-k
invariant-loop-k l = record {
  counted : l.count ≡ sum_below (λ k. closed_fields Line (word_of l.words (LineSwitch (k / 10) (k % 10)))) l.k;
  few : l.count ≤ 10 * l.k;
}
