use Rattle.xbar_equip.{specs.Len.is_line, proofs.{Lists.all_taken, Ranges.lines_in_range}}
use Rattle.xbar_equip.proofs.laws.lines_are_in_range.Goals as goal

pub returns-clause-each : goal.returns-clause-each
returns-clause-each c = lines_in_range c.args.lines.now (all_taken is_line c.args.lines.now c.loop-line.line-index c.loop-line-test.false c.loop-line.invariant)
