use Rattle.std.proofs.Common.{◌≡◌}
use Rattle.law_tests.proofs.queues.put_at_last.Given as goal

abbrev pub invariant-loop : goal.invariant-loop
invariant-loop g l = l.ticket ≡ l.fn.ticket
