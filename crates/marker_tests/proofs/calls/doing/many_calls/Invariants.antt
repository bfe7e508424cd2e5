use Rattle.std.proofs.Common.{All}
use Rattle.xbar_markers.specs.Calls.{HasCallNo}
use Rattle.marker_tests.proofs.calls.doing.many_calls.Given as goal

abbrev pub invariant-loop-place : goal.invariant-loop-place
invariant-loop-place l = All HasCallNo l.calls.items
