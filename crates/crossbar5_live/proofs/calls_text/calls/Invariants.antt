use Rattle.std.proofs.Common.{◌≡◌, All, take}
use Rattle.{xbar_markers.specs.Calls.HasCallNo, crossbar5_live.specs.Live.calls_of}
use Rattle.crossbar5_live.proofs.calls_text.calls.Given as goal

abbrev pub invariant-loop-row : goal.invariant-loop-row
invariant-loop-row l = record {
  calls : l.calls.items ≡ calls_of (take l.row-index l.rows);
  call_nos : All HasCallNo l.calls.items;
}
