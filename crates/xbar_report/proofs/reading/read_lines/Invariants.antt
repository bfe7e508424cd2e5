use Rattle.std.proofs.Common.{length}
use Rattle.xbar_report.{specs.Draft.draft_lines, proofs.Stray.IsReadSoFar}
use Rattle.xbar_report.proofs.reading.read_lines.Given as goal

abbrev pub invariant-loop-line : goal.invariant-loop-line
invariant-loop-line l = IsReadSoFar l.text l.rest l.number (draft_lines l.draft)

abbrev pub decreases-loop-line : goal.decreases-loop-line
decreases-loop-line l = length l.rest
