use Rattle.std.proofs.Common.{◌≡◌, ◌++◌, flat_map}
use Rattle.xbar_markers.specs.Calls.{records_of}
use Rattle.xbar_markers.proofs.gathering.all_records.Given as goal

abbrev pub invariant-loop-call : goal.invariant-loop-call
invariant-loop-call l = record {
  records : l.records.items ≡ flat_map records_of l.yielded;
  rest : l.yielded ++ l.call-iterator.rest.items ≡ l.fn.calls.items;
}
