use Rattle.std.proofs.Common.{take}
use Rattle.xbar_office.specs.Legal.{HaveTurns}
use Rattle.xbar_office.proofs.auditor.first_wrong_turn.Given as goal

abbrev pub invariant-loop-place : goal.invariant-loop-place
invariant-loop-place l = HaveTurns 0 (take l.place l.records)
