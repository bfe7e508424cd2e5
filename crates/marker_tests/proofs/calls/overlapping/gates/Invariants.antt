use Rattle.std.proofs.Common.{◌≡◌, vec_len}
use Rattle.marker_tests.proofs.calls.overlapping.gates.Given as goal

abbrev pub invariant-loop-meeting : goal.invariant-loop-meeting
invariant-loop-meeting l = vec_len l.gates ≡ l.meeting-index
