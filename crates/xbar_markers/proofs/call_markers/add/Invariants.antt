use Rattle.std.proofs.Common.{◌≡◌, ◌++◌, replicate}
use Rattle.xbar_markers.proofs.call_markers.add.Given as goal

abbrev pub invariant-loop : goal.invariant-loop
invariant-loop l = l.kinds.items ≡ l.initial.kinds.items ++ replicate l.counter l.kind
