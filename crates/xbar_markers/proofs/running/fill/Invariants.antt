use Rattle.std.proofs.Common.{◌≡◌, take}
use Rattle.xbar_markers.proofs.running.fill.Given as goal

abbrev pub invariant-loop-call : goal.invariant-loop-call
invariant-loop-call g l =
    l.whole ≡
    record (l.initial.whole) { calls = record (l.initial.whole.calls) { put = take l.call-index l.calls } }
