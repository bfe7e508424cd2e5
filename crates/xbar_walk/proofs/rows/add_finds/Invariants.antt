use Rattle.std.proofs.Common.{take, string_bytes}
use Rattle.xbar_walk.proofs.Finding.{AreFound}
use Rattle.xbar_walk.proofs.rows.add_finds.Given as goal

abbrev pub invariant-loop-tested : goal.invariant-loop-tested
invariant-loop-tested l = AreFound (take l.tested-index l.tests) (string_bytes l.initial.text) (string_bytes l.text) l.any
