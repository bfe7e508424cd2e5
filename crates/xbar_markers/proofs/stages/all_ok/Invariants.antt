use Rattle.std.proofs.Common.{◌≡◌, map, Ok}
use Rattle.xbar_markers.proofs.stages.all_ok.Given as goal

abbrev pub invariant-loop-one : goal.invariant-loop-one
invariant-loop-one g l = l.yielded ≡ map Ok l.all.items
