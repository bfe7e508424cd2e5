use Rattle.std.proofs.Common.{All}
use Rattle.xbar_markers.specs.Calls.{HasCallNo}
use Rattle.benches.proofs.live.calls.Given as goal

abbrev pub invariant-loop-no : goal.invariant-loop-no
invariant-loop-no l = All HasCallNo l.calls.items
